use Rattle.class_reader.proofs.ContinuedFile.{files_end}
use Rattle.class_reader.proofs.laws.files_end.Goals as goal

pub returns : goal.returns
returns c = files_end
