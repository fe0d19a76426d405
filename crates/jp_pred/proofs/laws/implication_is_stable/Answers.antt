use Rattle.jp_pred.proofs.Stability.{implies_stable}
use Rattle.jp_pred.proofs.laws.implication_is_stable.Goals as goal

pub returns : goal.returns
returns c = implies_stable
