use Rattle.std.proofs.Common.{length, arith}
use Rattle.std.specs.Prelude.{nat_lt}
use Rattle.std.proofs.lemmas.Bool.{ltb-true}
use Rattle.class_form.specs.WellFormed.{code_size, attributes_fit}
use Rattle.class_form.proofs.Facts.{four}
use Rattle.class_writer.proofs.members.content_length.Goals as goal

pub returns : goal.returns
returns c =
    let code = c.args.code.now in
    let f = four (nat_lt 0 (length code.bytes)) (nat_lt (length code.bytes) 65536) (attributes_fit c.requires.0 0 code.attributes) (nat_lt (code_size code) 4294967296) c.requires.1 in
    let lt = ltb-true (code_size code) 4294967296 f.3 in
    record {
      is_length = omega (arith, lt, c.code_size.ensures.sized, c.code_size.ensures.length_of_content);
      fits = omega (arith, lt, c.code_size.ensures.sized);
    }
