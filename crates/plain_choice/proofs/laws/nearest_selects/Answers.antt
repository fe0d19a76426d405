use Rattle.plain_choice.proofs.Best.{selects}
use Rattle.plain_choice.proofs.laws.nearest_selects.Goals as goal

pub returns : goal.returns
returns c = selects
