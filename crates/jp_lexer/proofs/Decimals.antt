-- Decimal digits and the number that they write.
use Rattle.std.proofs.Common.{◌≡◌, ℕ, zero, suc, ◌<◌, ◌≤◌, ◌&&◌, List, length, get_or, Some, None, refl, sym, ap, subst, ◌∙◌, arith}
use Rattle.std.specs.Prelude.{decimal, bytes_eq, nat_le}
use Rattle.std.specs.Str.Parse.{AllDigits, digits_value}
use Rattle.std.proofs.lemmas.Bool.{and_parts, and_from, leb-true, le-leb, cond-true}
use Rattle.std.proofs.lemmas.Option.{cond_some}
use Rattle.std.proofs.lemmas.Slice.Eq.{bytes_eq-Decides}
use Rattle.std.proofs.lemmas.Str.Parse.{IsNumeralModel, numerals_by_value, tells_digits}
use Rattle.std.proofs.lemmas.Fmt.{decimal_is_IsNumeral, decimal-digits_value, decimal_nonempty, length-decimal-le, first_decimal, decimal_digit}
use Rattle.jp_lexer.specs.Scanning.{decimal_of}

pub own : IsNumeralModel (AllDigits 10) (digits_value 10)
own = numerals_by_value (AllDigits 10) tells_digits

-- digits of a number that fits are read as it
pub decimal_of-decimal : (digits : List ℕ) (n : ℕ) → n ≤ 2147483648 → digits ≡ decimal n → decimal_of digits ≡ Some n
unfolding decimal_of
decimal_of-decimal digits n fits e =
    let value : digits_value 10 digits ≡ n = ap (digits_value 10) e ∙ (decimal_is_IsNumeral n (omega arith)).1 in
    let same = (bytes_eq-Decides digits (decimal (digits_value 10 digits))).1 (e ∙ ap decimal (sym value)) in
    let small = le-leb (digits_value 10 digits) 2147483648 (omega (arith, value)) in
    cond-true _ _ _ (and_from _ _ same small) ∙ ap (λ (x : ℕ). Some x) value

-- what is read is the number that the digits write
pub decimal-decimal_of : (digits : List ℕ) (n : ℕ) → decimal_of digits ≡ Some n → (digits ≡ decimal n) × (n ≤ 2147483648)
unfolding decimal_of
decimal-decimal_of digits n e =
    let value = digits_value 10 digits in
    let found = cond_some (bytes_eq digits (decimal value) && nat_le value 2147483648) value n e in
    let parts = and_parts (bytes_eq digits (decimal value)) (nat_le value 2147483648) found.0 in
    let same = (bytes_eq-Decides digits (decimal value)).0 parts.0 in
    let small = leb-true value 2147483648 parts.1 in
    (same ∙ ap decimal found.1, subst (λ (x : ℕ). x ≤ 2147483648) found.1 small)

-- what writes no number isn't read
pub decimal_of-none : (digits : List ℕ) → ((n : ℕ) → n ≤ 2147483648 → digits ≡ decimal n → ⊥) → decimal_of digits ≡ None
decimal_of-none digits none = elim (decimal_of digits) as (λ o. decimal_of digits ≡ o → o ≡ None) [
  | None ↦ λ e. refl
  | Some n ↦ λ e. let found = decimal-decimal_of digits n e in absurd (none n found.1 found.0)
] refl

-- a number that fits has 1 to 10 digits, and begins with 0 only where it has one
pub record IsPlain (digits : List ℕ) : Type 0 where
  pub some : 0 < length digits
  pub short : length digits ≤ 10
  pub leads : get_or digits 0 0 ≡ 48 → length digits ≤ 1

IsPlain-decimal : (n : ℕ) → n ≤ 2147483648 → IsPlain (decimal n)
IsPlain-decimal zero fits = rw (decimal_digit 0 (omega arith)) (record { some = omega arith; short = omega arith; leads = λ e. omega arith })
IsPlain-decimal (suc n) fits = record {
  some = decimal_nonempty (suc n) (omega arith);
  short = length-decimal-le 10 (suc n) (omega arith) (omega arith) (omega arith);
  leads = λ e. absurd (omega (arith, first_decimal (suc n) (omega arith) (omega arith), e));
}

pub plain : (digits : List ℕ) (n : ℕ) → n ≤ 2147483648 → digits ≡ decimal n → IsPlain digits
plain digits n fits e = subst IsPlain (sym e) (IsPlain-decimal n fits)

pub AllDigits-decimal : (digits : List ℕ) (n : ℕ) → n ≤ 2147483648 → digits ≡ decimal n → AllDigits 10 digits
AllDigits-decimal digits n fits e = subst (AllDigits 10) (sym e) (decimal_is_IsNumeral n (omega arith)).0.1

-- digits are those of their value
pub decimal-value : (digits : List ℕ) → AllDigits 10 digits → 0 < length digits → (get_or digits 0 0 ≡ 48 → length digits ≤ 1) → digits_value 10 digits ≤ 2147483648 → decimal_of digits ≡ Some (digits_value 10 digits)
decimal-value digits all some leads fits =
    decimal_of-decimal digits (digits_value 10 digits) fits (sym (decimal-digits_value own digits all some (λ e. omega (arith, leads e)) (omega arith)))

-- too large a value isn't read
pub decimal_of-large : (digits : List ℕ) → 2147483648 < digits_value 10 digits → decimal_of digits ≡ None
decimal_of-large digits large = decimal_of-none digits (λ n fits e. omega (arith, ap (digits_value 10) e, (decimal_is_IsNumeral n (omega arith)).1))
