use Rattle.class_writer.proofs.Encoding.{is_encoded}
use Rattle.class_writer.proofs.writer.write_class.Goals as goal

pub returns-clause-encodes : goal.returns-clause-encodes
returns-clause-encodes c = is_encoded c.args.file.now c.all_bytes.result c.requires c.all_bytes.ensures.exact c.all_bytes.ensures.constants c.all_bytes.ensures.fields c.all_bytes.ensures.methods c.all_bytes.ensures.flags
