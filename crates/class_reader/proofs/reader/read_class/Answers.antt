use Rattle.std.proofs.Common.{arith}
use Rattle.class_reader.proofs.FileLaws.{is_found, is_only}
use Rattle.class_reader.proofs.reader.read_class.Goals as goal

pub returns-clause-found : goal.returns-clause-found
returns-clause-found c = is_found c.args.bytes.now c.answer.result (λ i. omega (arith, c.type_inv.bytes i)) c.answer.ensures

pub returns-clause-only : goal.returns-clause-only
returns-clause-only c = is_only c.args.bytes.now c.answer.result c.answer.ensures
