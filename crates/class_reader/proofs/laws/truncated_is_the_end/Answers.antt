use Rattle.class_reader.proofs.ContinuedFile.{truncated_is_the_end}
use Rattle.class_reader.proofs.laws.truncated_is_the_end.Goals as goal

pub returns : goal.returns
returns c = truncated_is_the_end
