use Rattle.jp_pred.proofs.Implied.{implies_trans}
use Rattle.jp_pred.proofs.laws.implication_is_transitive.Goals as goal

pub returns : goal.returns
returns c = implies_trans
