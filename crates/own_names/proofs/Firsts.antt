-- The first class that isn't known, of lists one after the other.
use Rattle.std.proofs.Common.{◌≡◌, ℕ, ◌+◌, ◌<◌, ◌≤◌, List, [], ◌∷◌, ◌++◌, length, get_or, drop, true, false, not, cond, Some, None, refl, sym, ap, ◌∙◌}
use Rattle.std.specs.List.{find, flat_map}
use Rattle.std.specs.Option.{option_map, option_or}
use Rattle.std.proofs.lemmas.List.{at_drop_more, drop_all}
use Rattle.jp_pred.specs.Names.{Word}
use Rattle.jp_ast.specs.declared.token.Place.{Place}
use Rattle.type_rules.specs.Types.{is_among}
use Rattle.own_names.specs.Naming.{Named, alone, is_unknown, first_unknown}

pub first_append : (known : List Word) (xs ys : List Named) → first_unknown known (xs ++ ys) ≡ option_or (first_unknown known xs) (first_unknown known ys)
first_append known [] ys = refl
first_append known (x ∷ xs) ys = elim (is_unknown known x) as (λ b. option_map (λ (n : Named). n.place) (cond b (Some x) (find (is_unknown known) (xs ++ ys))) ≡ option_or (option_map (λ (n : Named). n.place) (cond b (Some x) (find (is_unknown known) xs))) (first_unknown known ys)) [
  | true ↦ refl
  | false ↦ first_append known xs ys
]

-- one class that is known
pub known_one : (known : List Word) (p : Place) (name : Word) → is_among name known ≡ true → None ≡ first_unknown known (alone p name)
known_one known p name e =
    let n : Named = record { place = p; class = name } in
    sym (ap (λ b. option_map (λ (n : Named). n.place) (cond (not b) (Some n) None)) e)

-- one that isn't
pub unknown_one : (known : List Word) (p : Place) (name : Word) → is_among name known ≡ false → Some p ≡ first_unknown known (alone p name)
unknown_one known p name e =
    let n : Named = record { place = p; class = name } in
    sym (ap (λ b. option_map (λ (n : Named). n.place) (cond (not b) (Some n) None)) e)

-- what is left of a list, one item on
on : {X : Type 0} (known : List Word) (f : X → List Named) (xs : List X) (i : ℕ) (x : X) → i < length xs → x ≡ get_or xs i x →
    first_unknown known (flat_map f (drop i xs)) ≡ option_or (first_unknown known (f x)) (first_unknown known (flat_map f (drop (i + 1) xs)))
on known f xs i x h e =
    at_drop_more (λ ys. first_unknown known (flat_map f ys)) xs i x h
    ∙ (ap (λ y. first_unknown known (f y ++ flat_map f (drop (i + 1) xs))) (sym e) ∙ first_append known (f x) (flat_map f (drop (i + 1) xs)))

-- an item with a class that isn't known
pub found : {X : Type 0} (known : List Word) (f : X → List Named) (xs : List X) (i : ℕ) (x : X) (p : Place) → i < length xs → x ≡ get_or xs i x → Some p ≡ first_unknown known (f x) → Some p ≡ first_unknown known (flat_map f (drop i xs))
found known f xs i x p h e g = ap (λ o. option_or o (first_unknown known (flat_map f (drop (i + 1) xs)))) g ∙ sym (on known f xs i x h e)

-- an item without one
pub passed : {X : Type 0} (known : List Word) (f : X → List Named) (xs : List X) (i : ℕ) (x : X) → i < length xs → x ≡ get_or xs i x → None ≡ first_unknown known (f x) → first_unknown known (flat_map f (drop (i + 1) xs)) ≡ first_unknown known (flat_map f (drop i xs))
passed known f xs i x h e g = ap (λ o. option_or o (first_unknown known (flat_map f (drop (i + 1) xs)))) g ∙ sym (on known f xs i x h e)

-- the end of the list
pub none_left : {X : Type 0} (known : List Word) (f : X → List Named) (xs : List X) (i : ℕ) → length xs ≤ i → None ≡ first_unknown known (flat_map f (drop i xs))
none_left known f xs i h = sym (ap (λ ys. first_unknown known (flat_map f ys)) (drop_all i xs h))
