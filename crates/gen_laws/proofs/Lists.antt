-- Where things stand in lists.
use Rattle.std.proofs.Common.{◌≡◌, ℕ, zero, suc, ◌+◌, Bool, true, false, List, [], ◌∷◌, ◌++◌, length, Option, Some, None, refl, sym, ap, ◌∙◌, arith}
use Rattle.std.specs.Prelude.{not, cond, nat_lt, is_some, position, slice_get, if◌then◌else◌}
use Rattle.std.specs.List.{prefix_len, position_or_len}
use Rattle.std.proofs.lemmas.Bool.{false≢true, lt-ltb}
use Rattle.std.proofs.lemmas.Option.{slice_get_within}

-- what is there is one thing
pub one_there : {A : Type 0} (o : Option A) (a b : A) → o ≡ Some a → o ≡ Some b → a ≡ b
one_there o a b e f = by_some (Some b) (sym e ∙ f) refl where
  by_some : {A : Type 0} {a b : A} (o : Option A) → Some a ≡ o → o ≡ Some b → a ≡ b
  by_some {a = a} {b = b} o e f = ap (λ (x : Option _). elim x [ None ↦ a | Some y ↦ y ]) (e ∙ f)

pub not_there : {A : Type 0} (P : Type 0) (a : A) (o : Option A) → o ≡ None → o ≡ Some a → P
not_there P a o e f = absurd (false≢true (ap is_some (sym e ∙ f)))

module _ {A : Type 0} (p : A → Bool) where
  -- the only one that passes
  pub only_at : (xs : List A) (a : ℕ) (x : A) → slice_get xs a ≡ Some x → p x ≡ true → ((i : ℕ) (y : A) → slice_get xs i ≡ Some y → p y ≡ true → i ≡ a) → position_or_len p xs ≡ a
  only_at [] a x e h one = absurd (false≢true (ap is_some e))
  only_at (z ∷ zs) zero x e h one =
      let same = one_there (Some z) z x refl e in
      ap (λ b. cond (not b) (1 + prefix_len (λ y. not (p y)) zs) 0) (ap p same ∙ h)
  only_at (z ∷ zs) (suc a) x e h one = by_first (p z) refl (only_at zs a x e h (λ i y there passes. omega (arith, one (suc i) y there passes))) where
    by_first : (b : Bool) → p z ≡ b → position_or_len p zs ≡ a → position_or_len p (z ∷ zs) ≡ suc a
    by_first true k rest = absurd (omega (arith, one zero z refl k))
    by_first false k rest =
        let e : 1 + a ≡ suc a = omega arith in
        ap (λ b. cond (not b) (1 + prefix_len (λ y. not (p y)) zs) 0) k ∙ ap (λ n. 1 + n) rest ∙ e

  pub only_position : (xs : List A) (a : ℕ) (x : A) → slice_get xs a ≡ Some x → p x ≡ true → ((i : ℕ) (y : A) → slice_get xs i ≡ Some y → p y ≡ true → i ≡ a) → position p xs ≡ Some a
  only_position xs a x e h one =
      ap (λ n. if nat_lt n (length xs) then Some n else None) (only_at xs a x e h one)
      ∙ ap (λ b. if b then Some a else None) (lt-ltb a (length xs) (slice_get_within xs a x e))

  none_before : (xs : List A) → ((i : ℕ) (y : A) → slice_get xs i ≡ Some y → p y ≡ false) → position_or_len p xs ≡ length xs
  none_before [] none = refl
  none_before (z ∷ zs) none =
      let e : 1 + length zs ≡ suc (length zs) = omega arith in
      ap (λ b. cond (not b) (1 + prefix_len (λ y. not (p y)) zs) 0) (none zero z refl) ∙ ap (λ n. 1 + n) (none_before zs (λ i y e. none (suc i) y e)) ∙ e

  -- none that passes
  pub no_position : (xs : List A) → ((i : ℕ) (y : A) → slice_get xs i ≡ Some y → p y ≡ false) → position p xs ≡ None
  no_position xs none = ap (λ n. if nat_lt n (length xs) then Some n else None) (none_before xs none) ∙ ap (λ b. if b then Some (length xs) else None) (self (length xs)) where
    self : (n : ℕ) → nat_lt n n ≡ false
    self n = search arith

-- both parts are empty
pub both_empty : {A : Type 0} (xs ys : List A) → xs ++ ys ≡ [] → (xs ≡ []) × (ys ≡ [])
both_empty [] ys e = (refl, e)
both_empty (x ∷ xs) ys e = cc
