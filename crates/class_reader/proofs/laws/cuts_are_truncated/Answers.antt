use Rattle.class_reader.proofs.ContinuedFile.{cuts_are_truncated}
use Rattle.class_reader.proofs.laws.cuts_are_truncated.Goals as goal

pub returns : goal.returns
returns c = cuts_are_truncated
