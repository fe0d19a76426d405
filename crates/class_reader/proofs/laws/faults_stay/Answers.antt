use Rattle.class_reader.proofs.ContinuedFile.{faults_stay}
use Rattle.class_reader.proofs.laws.faults_stay.Goals as goal

pub returns : goal.returns
returns c = faults_stay
