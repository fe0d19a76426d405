-- What stands in a list; a list without repetitions is no longer than one that has its items.
use Rattle.std.proofs.Common.{◌≡◌, suc, ◌≤◌, List, [], ◌∷◌, length, Bool, true, false, ◌||◌, ◌⊎◌, inl, inr, refl, ap, subst, arith}
use Rattle.std.specs.List.{list_any}
use Rattle.jp_pred.specs.Names.{In, here, there, AreDistinct}

pub or_cases : (a b : Bool) → (a || b) ≡ true → (a ≡ true) ⊎ (b ≡ true)
or_cases true b h = inl refl
or_cases false b h = inr h

pub or_left : (a b : Bool) → a ≡ true → (a || b) ≡ true
or_left a b h = rw h refl

pub or_right : (a b : Bool) → b ≡ true → (a || b) ≡ true
or_right true b h = refl
or_right false b h = h

pub any_from_in : {X : Type 0} (p : X → Bool) {x : X} {xs : List X} → In x xs → p x ≡ true → list_any p xs ≡ true
any_from_in p (here {x} {xs}) h = or_left (p x) (list_any p xs) h
any_from_in p (there {x} {y} {xs} i) h = or_right (p y) (list_any p xs) (any_from_in p i h)

pub in_from_any : {X : Type 0} (p : X → Bool) (xs : List X) → list_any p xs ≡ true → (x : X) × In x xs × (p x ≡ true)
in_from_any p [] h = absurd cc
in_from_any p (x ∷ xs) h = elim (or_cases (p x) (list_any p xs) h) [
  | inl l ↦ (x, here, l)
  | inr r ↦ let f = in_from_any p xs r in (f.0, there f.1, f.2)
]

-- zs is ys without one x
data Without {X : Type 0} (x : X) : List X → List X → Type 0 where
  first : {ys : List X} → Without x (x ∷ ys) ys
  later : {y : X} {ys zs : List X} → Without x ys zs → Without x (y ∷ ys) (y ∷ zs)

without : {X : Type 0} {x : X} {ys : List X} → In x ys → (zs : List X) × Without x ys zs
without (here {x} {xs}) = (xs, first)
without (there {x} {y} {xs} i) = let w = without i in (y ∷ w.0, later w.1)

without_length : {X : Type 0} {x : X} {ys zs : List X} → Without x ys zs → length ys ≡ suc (length zs)
without_length first = refl
without_length (later w) = ap suc (without_length w)

without_in : {X : Type 0} {x z : X} {ys zs : List X} → Without x ys zs → (z ≡ x → ⊥) → In z ys → In z zs
without_in first ne here = absurd (ne refl)
without_in first ne (there i) = i
without_in (later w) ne here = here
without_in (later w) ne (there i) = there (without_in w ne i)

pub no_longer : {X : Type 0} (xs ys : List X) → AreDistinct xs → ((x : X) → In x xs → In x ys) → length xs ≤ length ys
no_longer [] ys apart all = omega arith
no_longer (x ∷ xs) ys apart all =
    let w = without (all x here) in
    let shorter = no_longer xs w.0 apart.1 (λ z i. without_in w.1 (λ e. apart.0 (subst (λ y. In y xs) e i)) (all z (there i))) in
    let e : length ys ≡ suc (length w.0) = without_length w.1 in
    omega arith
