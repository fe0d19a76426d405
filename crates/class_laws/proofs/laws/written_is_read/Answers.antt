use Rattle.class_writer.specs.Written.{written}
use Rattle.class_laws.proofs.laws.written_is_read.Goals as goal

pub returns : goal.returns
returns c = λ file w ranges. c.encodings_are_read.ensures (written file) file w (c.written_encodes.ensures file w ranges)
