use Rattle.jp_pred.proofs.Checked.{selection_stable}
use Rattle.jp_pred.proofs.laws.selection_is_stable.Goals as goal

pub returns : goal.returns
returns c = selection_stable
