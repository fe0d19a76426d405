use Rattle.whole_program.proofs.Ahead.{enough}
use Rattle.whole_program.proofs.laws.enough_instructions.Goals as goal

pub returns : goal.returns
returns c = enough
