-- Tests of the items of a list that is made from another.
use Rattle.std.proofs.Common.{◌≡◌, List, [], ◌∷◌, ◌++◌, map, Bool, true, false, cond, Option, Some, None, refl, sym, ap}
use Rattle.std.specs.Prelude.{◌||◌}
use Rattle.std.specs.List.{find, list_any, filter_map, cons_option}
use Rattle.std.specs.Option.{option_map_or, is_some}
use Rattle.std.proofs.lemmas.List.Folds.{list_any-append}

pub any_filter : {A B : Type 0} (p : B → Bool) (f : A → Option B) (xs : List A) → list_any p (filter_map f xs) ≡ list_any (λ x. option_map_or p (f x) false) xs
any_filter p f [] = refl
any_filter p f (x ∷ xs) = elim (f x) as (λ o. list_any p (cons_option o (filter_map f xs)) ≡ (option_map_or p o false || list_any (λ y. option_map_or p (f y) false) xs)) [
  | None ↦ any_filter p f xs
  | Some y ↦ ap (λ b. p y || b) (any_filter p f xs)
]

pub any_map : {A B : Type 0} (p : B → Bool) (f : A → B) (xs : List A) → list_any p (map f xs) ≡ list_any (λ x. p (f x)) xs
any_map p f [] = refl
any_map p f (x ∷ xs) = ap (λ b. p (f x) || b) (any_map p f xs)

pub any_found : {A : Type 0} (p : A → Bool) (xs : List A) → is_some (find p xs) ≡ list_any p xs
any_found p [] = refl
any_found p (x ∷ xs) = elim (p x) as (λ b. is_some (cond b (Some x) (find p xs)) ≡ (b || list_any p xs)) [
  | true ↦ refl
  | false ↦ any_found p xs
]

pub any_both : {A : Type 0} (p : A → Bool) (xs ys : List A) → (list_any p xs || list_any p ys) ≡ list_any p (xs ++ ys)
any_both p xs ys = sym (list_any-append p xs ys)
