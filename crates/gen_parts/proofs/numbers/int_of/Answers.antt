use Rattle.gen_parts.proofs.Ints.{int_is}
use Rattle.gen_parts.proofs.numbers.int_of.Goals as goal

pub returns : goal.returns
returns c = int_is c.args.value c.cast_signed.result c.ranges.value.fits c.cast_signed.ensures
