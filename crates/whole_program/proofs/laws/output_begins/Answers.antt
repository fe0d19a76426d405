use Rattle.whole_program.proofs.Ahead.{output_begins}
use Rattle.whole_program.proofs.laws.output_begins.Goals as goal

pub returns : goal.returns
returns c = output_begins
