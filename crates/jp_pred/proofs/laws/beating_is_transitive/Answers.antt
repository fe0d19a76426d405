use Rattle.jp_pred.proofs.Selections.{beats_trans}
use Rattle.jp_pred.proofs.laws.beating_is_transitive.Goals as goal

pub returns : goal.returns
returns c = beats_trans
