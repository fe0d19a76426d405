use Rattle.jp_pred.proofs.Refutations.{implication_decided}
use Rattle.jp_pred.proofs.laws.implication_is_decided.Goals as goal

pub returns : goal.returns
returns c = implication_decided
