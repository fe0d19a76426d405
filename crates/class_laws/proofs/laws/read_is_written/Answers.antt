use Rattle.class_laws.proofs.Ranges.{in_range}
use Rattle.class_laws.proofs.laws.read_is_written.Goals as goal

pub returns : goal.returns
returns c = λ bytes file fit read. let it = c.files_are_encoded.ensures bytes file fit read in c.written_is_read.ensures file it.0 (in_range file bytes it.1)
