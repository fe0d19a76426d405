use Rattle.jp_pred.proofs.Selections.{greatest}
use Rattle.jp_pred.proofs.laws.settled_pairs_select.Goals as goal

pub returns : goal.returns
returns c = greatest
