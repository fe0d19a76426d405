use Rattle.std.proofs.Common.{◌≡◌, ◌^◌, ◌-◌, ◌<◌, ◌≤◌, ℕ, List, length, take, get_or, arith}
use Rattle.std.specs.Str.Parse.{AllDigits, digits_value}
use Rattle.std.proofs.lemmas.Bool.Decides.{nat_tests}
use Rattle.std.proofs.lemmas.List.{length-take}
use Rattle.std.proofs.lemmas.Int.Digits.{digits_more, digits_value_more}
use Rattle.std.proofs.lemmas.Str.Parse.{digit_at, digits_value_short}
use Rattle.std.specs.Char.{digit_value}
use Rattle.jp_lexer.proofs.Decimals.{own}
use Rattle.jp_lexer.proofs.numbers.decimal_value.Goals as goal

pub returns-then-not-is_ascii_digit-clause-none : goal.returns-then-not-is_ascii_digit-clause-none
returns-then-not-is_ascii_digit-clause-none c = λ all.
    let range = digit_at c.args.digits.now c.loop-digit.digit-index all (omega arith) in
    grind (arith, nat_tests)

value_short : (digits : List ℕ) (i value : ℕ) → i < length digits → length digits ≤ 10 → AllDigits 10 (take i digits) → value ≡ digits_value 10 (take i digits) → value < 10 ^ 9
value_short digits i value lt le all e =
    let short = digits_value_short own (take i digits) 9 all (omega (arith, length-take i digits)) in omega (arith, short, e)

pub overflow_mul-value : goal.overflow_mul-value
overflow_mul-value c =
    let short = value_short c.args.digits.now c.loop-digit.digit-index c.loop-digit.value (omega arith) (omega arith) c.loop-digit.invariant.each c.loop-digit.invariant.value in
    omega arith

pub overflow_add-value : goal.overflow_add-value
overflow_add-value c =
    let short = value_short c.args.digits.now c.loop-digit.digit-index c.loop-digit.value (omega arith) (omega arith) c.loop-digit.invariant.each c.loop-digit.invariant.value in
    omega arith

digit_value-digit : (b : ℕ) → 48 ≤ b → b ≤ 57 → digit_value b ≡ b - 48
digit_value-digit b low high = grind (arith, nat_tests)

pub loop-digit-preserved : goal.loop-digit-preserved
loop-digit-preserved c =
    let digits = c.args.digits.now in
    let i = c.loop-digit.digit-index in
    let lt : i < length digits = omega arith in
    let b = get_or digits i 0 in
    let low : 48 ≤ b = grind (arith, nat_tests) in
    let high : b ≤ 57 = grind (arith, nat_tests) in
    let is = digit_value-digit b low high in
    record {
      each = digits_more 10 digits i lt c.loop-digit.invariant.each (omega (arith, is));
      value = omega (arith, digits_value_more 10 digits i lt, is);
    }
