use Rattle.jp_pred.proofs.Ascents.{is_below-Decides}
use Rattle.jp_pred.proofs.laws.below_is_decided.Goals as goal

pub returns : goal.returns
returns c = is_below-Decides
