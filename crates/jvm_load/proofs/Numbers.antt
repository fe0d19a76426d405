-- Numbers in rising order, and which are among them.
use Rattle.std.proofs.Common.{◌≡◌, ◌≢◌, ℕ, zero, suc, ◌<◌, ◌≤◌, false, ◌||◌, List, [], ◌∷◌, length, get_or, refl, sym, ap, ◌∙◌, arith, ◌⊎◌, inl, inr, eq-eqb}
use Rattle.std.specs.Prelude.{Result, Ok, Err, MatchResult, is_ok, ◌==◌}
use Rattle.std.proofs.lemmas.Bool.{ne_eqb, cases_lt}
use Rattle.std.proofs.lemmas.List.Folds.{list_any_at}
use Rattle.jp_store.specs.Classes.{is_among}

pub absent : (x : ℕ) (xs : List ℕ) → ((k : ℕ) → k < length xs → get_or xs k 0 ≢ x) → is_among x xs ≡ false
absent x [] h = refl
absent x (y ∷ ys) h = ap (λ b. b || is_among x ys) (ne_eqb y x (h zero (omega arith))) ∙ absent x ys (λ k lt. h (suc k) (omega arith))

apart : (x : ℕ) (xs : List ℕ) (i k : ℕ) → ((k : ℕ) → k < i → get_or xs k 0 < x) → ((k : ℕ) → i ≤ k → k < length xs → x < get_or xs k 0) → k < length xs → (k < i) ⊎ (i ≤ k) → get_or xs k 0 ≢ x
apart x xs i k below above lt (inl a) = omega (arith, below k a)
apart x xs i k below above lt (inr b) = omega (arith, above k b lt)

-- what a bisection says of numbers in order
pub among_by : (x : ℕ) (xs : List ℕ) (r : Result ℕ ℕ) → MatchResult r (λ i. (i < length xs) × (get_or xs i 0 ≡ x)) (λ i. (i ≤ length xs) × ((k : ℕ) → k < i → get_or xs k 0 < x) × ((k : ℕ) → i ≤ k → k < length xs → x < get_or xs k 0))
    → is_ok r ≡ is_among x xs
among_by x xs (Ok i) h = sym (list_any_at (λ m. m == x) xs i 0 h.0 (eq-eqb (get_or xs i 0) x h.1))
among_by x xs (Err i) h = sym (absent x xs (λ k lt. apart x xs i k h.1 h.2 lt (cases_lt k i)))
