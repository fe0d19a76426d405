-- How large a product of an i64 and an i32 is.
use Rattle.std.proofs.Common.{◌≡◌, ℕ, ◌≤◌, ◌<◌, ◌+◌, ◌*◌, ◌^◌, ℤ, pos, negsuc, ◌+ℤ◌, ◌*ℤ◌, ◌≤ℤ◌, FitsSigned, w32, w64, arith, List, ◌∷◌, drop, get_or, length, Some}
use Rattle.std.proofs.Common.{drop-cons, ap, ◌∙◌, sym, refl, subst, suc, add-one}
use Rattle.jp_pred.specs.declared.path.Path.{Path}
use Rattle.jp_pred.specs.declared.guard.Term.{Term}
use Rattle.jp_pred.specs.Truth.{entry_of, sum_from}
use Rattle.std.proofs.Math.Nat.{mul-le-mul}
use Rattle.std.specs.Int.RustNames.{unsigned_abs}
use Rattle.std.proofs.lemmas.Int.{unsigned_abs-mul, ints}

abs_bounds : (z : ℤ) (n : ℕ) → unsigned_abs z ≤ n → (pos 0 ≤ℤ (z +ℤ pos n)) × (z ≤ℤ pos n)
abs_bounds (pos m) n h = (omega (arith, ints), omega (arith, ints))
abs_bounds (negsuc m) n h = (omega (arith, ints), omega (arith, ints))

abs_64 : (z : ℤ) → FitsSigned w64 z → unsigned_abs z ≤ 2 ^ 63
abs_64 (pos m) h = omega (arith, ints)
abs_64 (negsuc m) h = omega (arith, ints)

abs_32 : (z : ℤ) → FitsSigned w32 z → unsigned_abs z ≤ 2 ^ 31
abs_32 (pos m) h = omega (arith, ints)
abs_32 (negsuc m) h = omega (arith, ints)

pub product_bounds : (a b : ℤ) → FitsSigned w64 a → FitsSigned w32 b → (pos 0 ≤ℤ ((a *ℤ b) +ℤ pos (2 ^ 94))) × ((a *ℤ b) ≤ℤ pos (2 ^ 94))
product_bounds a b f g =
    let p : unsigned_abs a * unsigned_abs b ≤ 2 ^ 63 * 2 ^ 31 = mul-le-mul (abs_64 a f) (abs_32 b g) in
    let e : unsigned_abs (a *ℤ b) ≡ unsigned_abs a * unsigned_abs b = unsigned_abs-mul a b in
    abs_bounds (a *ℤ b) (2 ^ 94) (omega arith)

pub product_low : (r a b : ℤ) → r ≡ a *ℤ b → FitsSigned w64 a → FitsSigned w32 b → pos 0 ≤ℤ (r +ℤ pos (2 ^ 94))
product_low r a b e f g = subst (λ (z : ℤ). pos 0 ≤ℤ (z +ℤ pos (2 ^ 94))) (sym e) (product_bounds a b f g).0

pub product_high : (r a b : ℤ) → r ≡ a *ℤ b → FitsSigned w64 a → FitsSigned w32 b → r ≤ℤ pos (2 ^ 94)
product_high r a b e f g = subst (λ (z : ℤ). z ≤ℤ pos (2 ^ 94)) (sym e) (product_bounds a b f g).1

-- one more term
pub sum_step : (entries : List (Path × ℤ)) (terms : List Term) (i : ℕ) (t : Term) (v total : ℤ) → i < length terms → t ≡ get_or terms i t → entry_of t.path entries ≡ Some v →
    sum_from entries total (drop i terms) ≡ sum_from entries (total +ℤ t.coefficient *ℤ v) (drop (i + 1) terms)
sum_step entries terms i t v total l is e =
    ap (λ ts. sum_from entries total ts) (drop-cons terms i t l)
    ∙ subst (λ (u : Term). sum_from entries total (u ∷ drop (suc i) terms) ≡ sum_from entries (total +ℤ t.coefficient *ℤ v) (drop (i + 1) terms)) is
    (rw (e, add-one) refl)
