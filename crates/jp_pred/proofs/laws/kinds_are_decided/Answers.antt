use Rattle.jp_pred.proofs.OfTypes.{kind_below-Decides}
use Rattle.jp_pred.proofs.laws.kinds_are_decided.Goals as goal

pub returns : goal.returns
returns c = kind_below-Decides
