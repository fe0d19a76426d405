use Rattle.type_rules.proofs.Ways.{above_itself}
use Rattle.type_rules.proofs.laws.above_itself.Goals as goal

pub returns : goal.returns
returns c = above_itself
