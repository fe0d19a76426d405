use Rattle.std.proofs.Common.{◌∙◌, sym, ap, arith, ℕ, Some, length, ◌<◌, ◌≤◌}
use Rattle.std.proofs.lemmas.Bool.Decides.{nat_tests}
use Rattle.jp_lexer.proofs.Hexadecimals.{hexadecimal_of-none, hexadecimal_of-digits}
use Rattle.jp_lexer.proofs.numbers.hexadecimal_of.Goals as goal

pub returns-then-is_empty : goal.returns-then-is_empty
returns-then-is_empty c = sym (hexadecimal_of-none c.args.digits.now (λ all some short. grind (arith, nat_tests)))

pub returns-in_err-value : goal.returns-in_err-value
returns-in_err-value c = c.from_residual.ensures ∙ sym (hexadecimal_of-none c.args.digits.now (λ all some short. c.in_err-value.ensures.none all))

pub returns : goal.returns
returns c =
    let found = c.in_ok-value.ensures.found in
    let some : 0 < length c.args.digits.now = grind (arith, nat_tests) in
    let short : length c.args.digits.now ≤ 8 = grind (arith, nat_tests) in
    sym (hexadecimal_of-digits c.args.digits.now found.0 some short ∙ ap (λ (n : ℕ). Some n) (sym found.1))
