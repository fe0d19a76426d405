use Rattle.class_reader.proofs.ContinuedFile.{encodings_are_read}
use Rattle.class_reader.proofs.laws.encodings_are_read.Goals as goal

pub returns : goal.returns
returns c = encodings_are_read
