use Rattle.jp_pred.proofs.Checked.{beats_stable}
use Rattle.jp_pred.proofs.laws.beating_is_stable.Goals as goal

pub returns : goal.returns
returns c = beats_stable
