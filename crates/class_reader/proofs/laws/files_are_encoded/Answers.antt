use Rattle.class_reader.proofs.FileLaws.{is_encoded}
use Rattle.class_reader.proofs.laws.files_are_encoded.Goals as goal

pub returns : goal.returns
returns c = is_encoded
