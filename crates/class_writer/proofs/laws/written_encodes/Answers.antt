use Rattle.class_writer.proofs.Encoding.{encoded}
use Rattle.class_writer.proofs.laws.written_encodes.Goals as goal

pub returns : goal.returns
returns c = λ file w r. encoded file w r.constants r.fields r.methods r.flags
