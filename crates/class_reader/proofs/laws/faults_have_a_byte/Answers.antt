use Rattle.class_reader.proofs.ContinuedFile.{faults_have_a_byte}
use Rattle.class_reader.proofs.laws.faults_have_a_byte.Goals as goal

pub returns : goal.returns
returns c = faults_have_a_byte
