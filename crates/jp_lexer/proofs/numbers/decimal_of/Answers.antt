use Rattle.std.proofs.Common.{◌≡◌, ◌<◌, ◌≤◌, length, get_or, sym, ap, ◌∙◌, arith, Some, ℕ}
use Rattle.std.proofs.lemmas.Bool.Decides.{nat_tests}
use Rattle.jp_lexer.proofs.Decimals.{decimal_of-none, plain, AllDigits-decimal, decimal-value, decimal_of-large}
use Rattle.jp_lexer.proofs.numbers.decimal_of.Goals as goal

pub returns-then-is_empty : goal.returns-then-is_empty
returns-then-is_empty c = sym (decimal_of-none c.args.digits.now (λ n fits e.
    let p = plain c.args.digits.now n fits e in
    grind (arith, nat_tests)))

pub returns-then-digits-gt1 : goal.returns-then-digits-gt1
returns-then-digits-gt1 c = sym (decimal_of-none c.args.digits.now (λ n fits e.
    let p = plain c.args.digits.now n fits e in
    omega (arith, p.leads c.if-digits-eq48.true)))

pub returns-in_err-value : goal.returns-in_err-value
returns-in_err-value c =
    c.from_residual.ensures ∙ sym (decimal_of-none c.args.digits.now (λ n fits e. c.in_err-value.ensures.none (AllDigits-decimal c.args.digits.now n fits e)))

pub returns-then-value-le-MAX_DECIMAL : goal.returns-then-value-le-MAX_DECIMAL
returns-then-value-le-MAX_DECIMAL c =
    let digits = c.args.digits.now in
    let found = c.in_ok-value.ensures.found in
    let some : 0 < length digits = grind (arith, nat_tests) in
    let leads = λ (e : get_or digits 0 0 ≡ 48). let short : length digits ≤ 1 = grind arith in short in
    sym (decimal-value digits found.0 some leads (omega (arith, found.1)) ∙ ap (λ (n : ℕ). Some n) (sym found.1))

pub returns-else-value-le-MAX_DECIMAL : goal.returns-else-value-le-MAX_DECIMAL
returns-else-value-le-MAX_DECIMAL c =
    sym (decimal_of-large c.args.digits.now (omega (arith, c.in_ok-value.ensures.found.1)))
