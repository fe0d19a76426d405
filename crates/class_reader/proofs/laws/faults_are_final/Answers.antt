use Rattle.class_reader.proofs.ContinuedFile.{faults_are_final}
use Rattle.class_reader.proofs.laws.faults_are_final.Goals as goal

pub returns : goal.returns
returns c = faults_are_final
