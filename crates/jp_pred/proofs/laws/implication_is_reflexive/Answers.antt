use Rattle.jp_pred.proofs.Implied.{implies_refl}
use Rattle.jp_pred.proofs.laws.implication_is_reflexive.Goals as goal

pub returns : goal.returns
returns c = implies_refl
