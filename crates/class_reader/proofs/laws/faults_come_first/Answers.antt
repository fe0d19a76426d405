use Rattle.class_reader.proofs.ContinuedFile.{faults_come_first}
use Rattle.class_reader.proofs.laws.faults_come_first.Goals as goal

pub returns : goal.returns
returns c = faults_come_first
