-- Hexadecimal numbers have their lexical form.
use Rattle.std.proofs.Common.{◌≡◌, ℕ, zero, suc, ◌+◌, ◌*◌, ◌/◌, ◌%◌, ◌^◌, ◌<◌, ◌≤◌, Bool, true, false, List, [], ◌∷◌, ◌++◌, length, refl, sym, ap, ◌∙◌, subst, arith, add-one, cond, inl, inr, codes}
use Rattle.std.specs.Prelude.{◌==◌, if◌then◌else◌}
use Rattle.std.specs.Fmt.{digits, digits_onto, digit_glyph}
use Rattle.std.specs.Str.{byte}
use Rattle.std.specs.Str.Parse.{AllDigits, digits_value}
use Rattle.std.proofs.lemmas.Fmt.{digits_is_IsNumeral}
use Rattle.std.proofs.lemmas.Int.Digits.{digits_value-lt}
use Rattle.std.proofs.lemmas.Bool.{cases_Bool, cond-true, cond-false, eqb-true, eqb-false}
use Rattle.std.proofs.Math.Nat.{pow-le-pow_right}
use Rattle.jp_lexical.specs.Tokens.{IsHexadecimal}

pow_more : (m : ℕ) → 16 ^ (suc m) ≡ 16 ^ m * 16
pow_more m = grind arith

-- a number below 16 ^ m has at most m digits
onto_short : (k m n : ℕ) (acc : List ℕ) → n < 16 ^ m → 0 < m → m ≤ k → length (digits_onto k 16 false n acc) ≤ m + length acc
onto_short zero m n acc lt some le = absurd (omega arith)
onto_short (suc k) zero n acc lt some le = absurd (omega arith)
onto_short (suc k) (suc m) n acc lt some le = elim (cases_Bool (n / 16 == 0)) [
  | inl none ↦ rw none (omega arith)
  | inr more ↦ rw more (further m k n acc lt (eqb-false (n / 16) 0 more) (omega arith) (onto_short k))
] where
  further : (m k n : ℕ) (acc : List ℕ) → n < 16 ^ suc m → (n / 16 ≡ 0 → ⊥) → m ≤ k →
      ((m n : ℕ) (acc : List ℕ) → n < 16 ^ m → 0 < m → m ≤ k → length (digits_onto k 16 false n acc) ≤ m + length acc) →
      length (digits_onto k 16 false (n / 16) (digit_glyph false (n % 16) ∷ acc)) ≤ suc m + length acc
  further zero k n acc lt more le h = absurd (more (omega arith))
  further (suc m) k n acc lt more le h =
      let p = pow_more (suc m) in
      let r = h (suc m) (n / 16) (digit_glyph false (n % 16) ∷ acc) (omega (arith, p)) (omega arith) le in
      omega (arith, r)

hex_short : (n : ℕ) → n < 16 ^ 8 → length (digits 16 false n) ≤ 8
unfolding digits
hex_short n lt = let h = onto_short 64 8 n [] lt (omega arith) (omega arith) in omega (arith, h)

-- eight digits are below 16 ^ 8
pub hex_below : (bytes : List ℕ) (value : ℕ) → IsHexadecimal bytes value → value < 16 ^ 8
hex_below bytes value h =
    let lt = digits_value-lt 16 h.digits h.each in
    let le : 16 ^ length h.digits ≤ 16 ^ 8 = pow-le-pow_right {n = 16} (omega arith) {i = length h.digits} {j = 8} h.short in
    let m = h.means in
    omega (arith, lt, le, m)

-- the number is printed in its form
pub hex_printed : (bytes : List ℕ) (value : ℕ) → IsHexadecimal bytes value → IsHexadecimal (codes "0x" ++ digits 16 false value) value
hex_printed bytes value h =
    let lt = hex_below bytes value h in
    let big : 16 ^ 8 ≤ 16 ^ 64 = pow-le-pow_right {n = 16} (omega arith) {i = 8} {j = 64} (omega arith) in
    let n = digits_is_IsNumeral 16 false (omega arith) (omega arith) value (omega (arith, lt, big)) in
    record { x = byte "x"; digits = digits 16 false value; parts = refl; marked = refl; each = n.0.1; some = n.0.0; short = hex_short value lt; means = sym n.1 }
