use Rattle.std.proofs.Common.{arith}
use Rattle.jp_lexer.proofs.HexSteps.{HexRead, hex_more, hex_fits, hex_short, digit_below}
use Rattle.jp_lexer.proofs.numbers.hexadecimal_value.Goals as goal

pub returns-then-digit-ge16-clause-none : goal.returns-then-digit-ge16-clause-none
returns-then-digit-ge16-clause-none c = λ all.
    omega (arith, digit_below 16 c.args.digits.now c.loop-byte.byte-index all (omega arith), c.digit_value-digit.ensures)

pub overflow_mul-value : goal.overflow_mul-value
overflow_mul-value c = omega (arith, hex_short c.loop-byte.byte-index c.loop-byte.value c.loop-byte.invariant.bound (omega arith))

pub overflow_add-value : goal.overflow_add-value
overflow_add-value c = omega (arith, hex_short c.loop-byte.byte-index c.loop-byte.value c.loop-byte.invariant.bound (omega arith))

pub loop-byte-preserved : goal.loop-byte-preserved
loop-byte-preserved c =
    let i = c.loop-byte.byte-index in
    let inv : HexRead c.args.digits.now i c.loop-byte.value = record { each = c.loop-byte.invariant.each; means = c.loop-byte.invariant.value; bound = c.loop-byte.invariant.bound } in
    let more = hex_more c.args.digits.now i c.loop-byte.value c.digit_value-digit.result (omega arith) c.digit_value-digit.ensures (omega arith) inv in
    record { each = more.each; value = omega (arith, more.means); bound = omega (arith, more.bound) }

pub returns-clause-fits : goal.returns-clause-fits
returns-clause-fits c = hex_fits c.loop-byte.byte-index c.loop-byte.value c.loop-byte.invariant.bound (omega arith)
