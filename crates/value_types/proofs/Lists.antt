-- Where things stand in lists.
use Rattle.std.proofs.Common.{◌≡◌, ℕ, zero, suc, ◌+◌, Bool, true, false, cond, ◌&&◌, ◌||◌, List, [], ◌∷◌, ◌++◌, map, length, take, replicate, reverse, get_or, Option, Some, None, ◌⊎◌, inl, inr, refl, sym, ap, ◌∙◌, arith}
use Rattle.std.specs.Prelude.{is_some, position, filter, slice_get, slice_set}
use Rattle.std.specs.List.{list_all, list_any, flat_map}
use Rattle.std.specs.Option.{option_map, option_map_or}
use mathlib.Core.List.{reverse_aux}
use Rattle.std.proofs.lemmas.Bool.{false≢true, and_from, or_left, or_right}
use Rattle.std.proofs.lemmas.Option.{none-some, same_Some, slice_get-map, slice_get-get_or}
use Rattle.std.proofs.lemmas.List.Quantifiers.{position-Some}
use Rattle.jp_pred.proofs.Lists.{or_cases}

pub both : (a b : Bool) → (a && b) ≡ true → (a ≡ true) × (b ≡ true)
both true b e = (refl, e)
both false b e = absurd (false≢true e)

-- what is there
pub some_of : {A : Type 0} (o : Option A) → is_some o ≡ true → (a : A) × (o ≡ Some a)
some_of None h = absurd (false≢true h)
some_of (Some a) h = (a, refl)

-- what is there and passes
pub passing : {A : Type 0} (p : A → Bool) (o : Option A) → option_map_or p o false ≡ true → (a : A) × (o ≡ Some a) × (p a ≡ true)
passing p None h = absurd (false≢true h)
passing p (Some a) h = (a, refl, h)

pub get_append : {A : Type 0} (xs ys : List A) (i : ℕ) (x : A) → slice_get xs i ≡ Some x → slice_get (xs ++ ys) i ≡ Some x
get_append [] ys i x e = absurd (none-some x e)
get_append (z ∷ xs) ys zero x e = e
get_append (z ∷ xs) ys (suc i) x e = get_append xs ys i x e

pub get_behind : {A : Type 0} (xs ys : List A) (i : ℕ) (x : A) → slice_get ys i ≡ Some x → slice_get (xs ++ ys) (length xs + i) ≡ Some x
get_behind [] ys i x e = let k : 0 + i ≡ i = omega arith in ap (slice_get ys) k ∙ e
get_behind (z ∷ xs) ys i x e = let k : suc (length xs) + i ≡ suc (length xs + i) = omega arith in ap (slice_get (z ∷ (xs ++ ys))) k ∙ get_behind xs ys i x e

pub get_map : {A B : Type 0} (f : A → B) (xs : List A) (i : ℕ) (x : A) → slice_get xs i ≡ Some x → slice_get (map f xs) i ≡ Some (f x)
get_map f xs i x e = slice_get-map f xs i ∙ ap (option_map f) e

pub from_map : {A B : Type 0} (f : A → B) (xs : List A) (i : ℕ) (y : B) → slice_get (map f xs) i ≡ Some y → (x : A) × (slice_get xs i ≡ Some x) × (f x ≡ y)
from_map f [] i y e = absurd (none-some y e)
from_map f (x ∷ xs) zero y e = (x, refl, same_Some (f x) y e)
from_map f (x ∷ xs) (suc i) y e = from_map f xs i y e

-- what stands in a list with another item at an index
pub from_set : {A : Type 0} (xs : List A) (i j : ℕ) (a x : A) → slice_get (slice_set xs i a) j ≡ Some x → (x ≡ a) ⊎ (slice_get xs j ≡ Some x)
from_set [] i j a x e = absurd (none-some x e)
from_set (z ∷ xs) zero zero a x e = inl (sym (same_Some a x e))
from_set (z ∷ xs) zero (suc j) a x e = inr e
from_set (z ∷ xs) (suc i) zero a x e = inr e
from_set (z ∷ xs) (suc i) (suc j) a x e = from_set xs i j a x e

-- there, or elsewhere
pub set_at : {A : Type 0} (xs : List A) (i j : ℕ) (a b : A) → slice_get xs i ≡ Some b → ((j ≡ i) × (slice_get (slice_set xs i a) j ≡ Some a)) ⊎ (slice_get (slice_set xs i a) j ≡ slice_get xs j)
set_at [] i j a b e = absurd (none-some b e)
set_at (z ∷ xs) zero zero a b e = inl (refl, refl)
set_at (z ∷ xs) zero (suc j) a b e = inr refl
set_at (z ∷ xs) (suc i) zero a b e = inr refl
set_at (z ∷ xs) (suc i) (suc j) a b e = elim (set_at xs i j a b e) [
  | inl l ↦ inl (ap suc l.0, l.1)
  | inr r ↦ inr r
]

pub map_set : {A B : Type 0} (f : A → B) (xs : List A) (i : ℕ) (a x : A) → slice_get xs i ≡ Some x → f a ≡ f x → map f (slice_set xs i a) ≡ map f xs
map_set f [] i a x e k = refl
map_set f (z ∷ xs) zero a x e k = ap (λ b. b ∷ map f xs) (k ∙ ap f (sym (same_Some z x e)))
map_set f (z ∷ xs) (suc i) a x e k = ap (λ l. f z ∷ l) (map_set f xs i a x e k)

pub map_joined : {A B : Type 0} (f : A → B) (xs ys : List A) → map f (xs ++ ys) ≡ map f xs ++ map f ys
map_joined f [] ys = refl
map_joined f (x ∷ xs) ys = ap (λ l. f x ∷ l) (map_joined f xs ys)

-- the last item, or one before it
pub from_end : {A : Type 0} (xs : List A) (a : A) (j : ℕ) (y : A) → slice_get (xs ++ a ∷ []) j ≡ Some y → (y ≡ a) ⊎ (slice_get xs j ≡ Some y)
from_end [] a zero y e = inl (sym (same_Some a y e))
from_end [] a (suc j) y e = absurd (none-some y e)
from_end (x ∷ xs) a zero y e = inr e
from_end (x ∷ xs) a (suc j) y e = from_end xs a j y e

pub last_there : {A : Type 0} (xs : List A) (a : A) → slice_get (xs ++ a ∷ []) (length xs) ≡ Some a
last_there [] a = refl
last_there (x ∷ xs) a = last_there xs a

pub all_get : {A : Type 0} (p : A → Bool) (xs : List A) (i : ℕ) (x : A) → list_all p xs ≡ true → slice_get xs i ≡ Some x → p x ≡ true
all_get p [] i x h e = absurd (none-some x e)
all_get p (z ∷ xs) zero x h e = ap p (sym (same_Some z x e)) ∙ (both (p z) (list_all p xs) h).0
all_get p (z ∷ xs) (suc i) x h e = all_get p xs i x (both (p z) (list_all p xs) h).1 e

pub all_set : {A : Type 0} (p : A → Bool) (xs : List A) (i : ℕ) (a : A) → list_all p xs ≡ true → p a ≡ true → list_all p (slice_set xs i a) ≡ true
all_set p [] i a h k = refl
all_set p (z ∷ xs) zero a h k = and_from (p a) (list_all p xs) k (both (p z) (list_all p xs) h).1
all_set p (z ∷ xs) (suc i) a h k = let s = both (p z) (list_all p xs) h in and_from (p z) (list_all p (slice_set xs i a)) s.0 (all_set p xs i a s.1 k)

pub all_replicate : {A : Type 0} (p : A → Bool) (n : ℕ) (a : A) → p a ≡ true → list_all p (replicate n a) ≡ true
all_replicate p zero a k = refl
all_replicate p (suc n) a k = and_from (p a) (list_all p (replicate n a)) k (all_replicate p n a k)

pub all_more : {A : Type 0} (p q : A → Bool) (xs : List A) → ((x : A) → p x ≡ true → q x ≡ true) → list_all p xs ≡ true → list_all q xs ≡ true
all_more p q [] f h = refl
all_more p q (x ∷ xs) f h = let s = both (p x) (list_all p xs) h in and_from (q x) (list_all q xs) (f x s.0) (all_more p q xs f s.1)

pub position_there : {A : Type 0} (p : A → Bool) (xs : List A) (i : ℕ) → position p xs ≡ Some i → (x : A) × (slice_get xs i ≡ Some x) × (p x ≡ true)
position_there p [] i e = absurd (none-some i e)
position_there p (z ∷ zs) i e = let h = position-Some p (z ∷ zs) i z e in (get_or (z ∷ zs) i z, slice_get-get_or (z ∷ zs) i z h.0, h.1)

-- what passes stands, among all that pass, behind those that pass before it
pub filter_there : {A : Type 0} (p : A → Bool) (xs : List A) (i : ℕ) (x : A) → slice_get xs i ≡ Some x → p x ≡ true → slice_get (filter p xs) (length (filter p (take i xs))) ≡ Some x
filter_there p [] i x e h = absurd (none-some x e)
filter_there p (z ∷ xs) zero x e h = ap (λ b. slice_get (cond b (z ∷ filter p xs) (filter p xs)) 0) (ap p (same_Some z x e) ∙ h) ∙ e
filter_there {A} p (z ∷ xs) (suc i) x e h = by_first (p z) (filter_there p xs i x e h) where
  by_first : (b : Bool) → slice_get (filter p xs) (length (filter p (take i xs))) ≡ Some x → slice_get (cond b (z ∷ filter p xs) (filter p xs)) (length (cond b (z ∷ filter p (take i xs)) (filter p (take i xs)))) ≡ Some x
  by_first true k = k
  by_first false k = k

pub flat_mapped : {A B C : Type 0} (f : B → C) (g : A → List B) (xs : List A) → flat_map (λ x. map f (g x)) xs ≡ map f (flat_map g xs)
flat_mapped f g [] = refl
flat_mapped f g (x ∷ xs) = ap (λ l. map f (g x) ++ l) (flat_mapped f g xs) ∙ sym (map_joined f (g x) (flat_map g xs))

any_onto : {A : Type 0} (p : A → Bool) (xs ys : List A) → list_any p ys ≡ true → list_any p (reverse_aux xs ys) ≡ true
any_onto p [] ys h = h
any_onto p (x ∷ xs) ys h = any_onto p xs (x ∷ ys) (or_right (p x) (list_any p ys) h)

any_turned : {A : Type 0} (p : A → Bool) (xs ys : List A) → list_any p xs ≡ true → list_any p (reverse_aux xs ys) ≡ true
any_turned p [] ys h = absurd (false≢true h)
any_turned p (x ∷ xs) ys h = elim (or_cases (p x) (list_any p xs) h) [
  | inl l ↦ any_onto p xs (x ∷ ys) (or_left (p x) (list_any p ys) l)
  | inr r ↦ any_turned p xs (x ∷ ys) r
]

-- what is in a list is in it the other way round
pub any_reversed : {A : Type 0} (p : A → Bool) (xs : List A) → list_any p xs ≡ true → list_any p (reverse xs) ≡ true
any_reversed p xs h = any_turned p xs [] h
