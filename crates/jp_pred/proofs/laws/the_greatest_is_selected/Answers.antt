use Rattle.jp_pred.proofs.Selections.{greatest_selected}
use Rattle.jp_pred.proofs.laws.the_greatest_is_selected.Goals as goal

pub returns : goal.returns
returns c = greatest_selected
