-- The steps of reading hexadecimal digits one after the other.
use Rattle.std.proofs.Common.{◌≡◌, ℕ, zero, suc, ◌+◌, ◌*◌, ◌^◌, ◌<◌, ◌≤◌, List, [], ◌∷◌, length, take, get_or, arith, add-one}
use Rattle.std.specs.Char.{digit_value}
use Rattle.std.specs.Str.Parse.{AllDigits, digits_value}
use Rattle.std.proofs.lemmas.Int.Digits.{digits_more, digits_value_more}
use Rattle.std.proofs.Math.Nat.{pow-le-pow_right}

pub record HexRead (digits : List ℕ) (i value : ℕ) : Type 0 where
  pub each : AllDigits 16 (take i digits)
  pub means : value ≡ digits_value 16 (take i digits)
  pub bound : value < 16 ^ i

pub digit_below : (radix : ℕ) (digits : List ℕ) (i : ℕ) → AllDigits radix digits → i < length digits → digit_value (get_or digits i 0) < radix
digit_below radix [] i all lt = absurd (omega arith)
digit_below radix (b ∷ bs) zero all lt = all.0
digit_below radix (b ∷ bs) (suc i) all lt = digit_below radix bs i all.1 (omega arith)

pow_more : (i : ℕ) → 16 ^ (i + 1) ≡ 16 ^ i * 16
pow_more i = rw add-one (grind arith)

pub hex_more : (digits : List ℕ) (i value d : ℕ) → i < length digits → d ≡ digit_value (get_or digits i 0) → d < 16 → HexRead digits i value → HexRead digits (i + 1) (value * 16 + d)
hex_more digits i value d lt is small read = record {
  each = digits_more 16 digits i lt read.each (omega (arith, is));
  means = omega (arith, digits_value_more 16 digits i lt, is, read.means);
  bound = omega (arith, pow_more i, read.bound);
}

pub hex_short : (i value : ℕ) → value < 16 ^ i → i < 8 → value < 268435456
hex_short i value bound lt = let le : 16 ^ i ≤ 16 ^ 7 = pow-le-pow_right {n = 16} (omega arith) {i = i} {j = 7} (omega arith) in omega (arith, le)

pub hex_fits : (i value : ℕ) → value < 16 ^ i → i ≤ 8 → value < 4294967296
hex_fits i value bound lt = let le : 16 ^ i ≤ 16 ^ 8 = pow-le-pow_right {n = 16} (omega arith) {i = i} {j = 8} (omega arith) in omega (arith, le)
