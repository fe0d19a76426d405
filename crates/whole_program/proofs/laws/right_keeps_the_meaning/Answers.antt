use Rattle.whole_program.proofs.Linked.{right_keeps}
use Rattle.whole_program.proofs.laws.right_keeps_the_meaning.Goals as goal

pub returns : goal.returns
returns c = right_keeps
