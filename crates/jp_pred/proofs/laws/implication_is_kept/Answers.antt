use Rattle.jp_pred.proofs.Implied.{implies_kept}
use Rattle.jp_pred.proofs.laws.implication_is_kept.Goals as goal

pub returns : goal.returns
returns c = implies_kept
