use Rattle.class_lines.proofs.Below.{below_same}
use Rattle.class_lines.proofs.laws.below_is_the_same.Goals as goal

pub returns : goal.returns
returns c = below_same
