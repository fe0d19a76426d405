use Rattle.plain_choice.proofs.Best.{is_best}
use Rattle.plain_choice.proofs.laws.nearest_is_best.Goals as goal

pub returns : goal.returns
returns c = is_best
