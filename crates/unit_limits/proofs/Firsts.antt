-- The first count that passes its limit, of lists one after the other.
use Rattle.std.proofs.Common.{◌≡◌, ℕ, ◌+◌, ◌-◌, ◌^◌, ◌<◌, ◌≤◌, min, List, [], ◌∷◌, ◌++◌, length, get_or, drop, true, false, cond, Some, None, refl, sym, ap, ◌∙◌, arith}
use Rattle.std.specs.List.{find, flat_map}
use Rattle.std.specs.Option.{option_map, option_or}
use Rattle.std.proofs.lemmas.Bool.{lt-ltb, le-ltb}
use Rattle.std.proofs.lemmas.List.{at_drop_more, drop_all}
use Rattle.unit_limits.specs.declared.limits.Limit.{Limit}
use Rattle.unit_limits.specs.declared.limits.Limit.TheVariants as limits
use Rattle.unit_limits.specs.declared.limits.TooLarge.{TooLarge}
use Rattle.unit_limits.specs.Counting.{Count, counted, most, is_over, told, first_told}

pub told_append : (xs ys : List Count) → first_told (xs ++ ys) ≡ option_or (first_told xs) (first_told ys)
told_append [] ys = refl
told_append (x ∷ xs) ys = elim (is_over x) as (λ b. option_map told (cond b (Some x) (find is_over (xs ++ ys))) ≡ option_or (option_map told (cond b (Some x) (find is_over xs))) (first_told ys)) [
  | true ↦ refl
  | false ↦ told_append xs ys
]

-- each limit is a small number
small : (l : Limit) → most l ≤ 4194304
small limits.UnitBytes = omega arith
small limits.Text = omega arith
small limits.Parameters = omega arith
small limits.Aliases = omega arith
small limits.Locals = omega arith
small limits.BodyNodes = omega arith
small limits.ClassNodes = omega arith

-- one count that passes its limit
pub one_over : (l : Limit) (n count : ℕ) → min n (2 ^ 64 - 1) ≡ count → most l < count → Some (record { limit = l; count = count }) ≡ first_told (counted l n ∷ [])
one_over l n count e h =
    let above : most l < n = omega (arith, e, h) in
    sym (ap (λ b. option_map told (cond b (Some (counted l n)) None)) (lt-ltb (most l) n above) ∙ ap (λ (k : ℕ). let t : TooLarge = record { limit = l; count = k } in Some t) e)

-- one that doesn't
pub one_within : (l : Limit) (n count : ℕ) → min n (2 ^ 64 - 1) ≡ count → count ≤ most l → None ≡ first_told (counted l n ∷ [])
one_within l n count e h =
    let below : n ≤ most l = omega (arith, e, h, small l) in
    sym (ap (λ b. option_map told (cond b (Some (counted l n)) None)) (le-ltb (most l) n below))

-- what is left of a list, one item on
on : {X : Type 0} (f : X → List Count) (xs : List X) (i : ℕ) (x : X) → i < length xs → x ≡ get_or xs i x →
    first_told (flat_map f (drop i xs)) ≡ option_or (first_told (f x)) (first_told (flat_map f (drop (i + 1) xs)))
on f xs i x h e =
    at_drop_more (λ ys. first_told (flat_map f ys)) xs i x h
    ∙ (ap (λ y. first_told (f y ++ flat_map f (drop (i + 1) xs))) (sym e) ∙ told_append (f x) (flat_map f (drop (i + 1) xs)))

-- an item with a count that passes its limit
pub found : {X : Type 0} (f : X → List Count) (xs : List X) (i : ℕ) (x : X) (t : TooLarge) → i < length xs → x ≡ get_or xs i x → Some t ≡ first_told (f x) → Some t ≡ first_told (flat_map f (drop i xs))
found f xs i x t h e g = ap (λ o. option_or o (first_told (flat_map f (drop (i + 1) xs)))) g ∙ sym (on f xs i x h e)

-- an item without one
pub passed : {X : Type 0} (f : X → List Count) (xs : List X) (i : ℕ) (x : X) → i < length xs → x ≡ get_or xs i x → None ≡ first_told (f x) → first_told (flat_map f (drop (i + 1) xs)) ≡ first_told (flat_map f (drop i xs))
passed f xs i x h e g = ap (λ o. option_or o (first_told (flat_map f (drop (i + 1) xs)))) g ∙ sym (on f xs i x h e)

-- the end of the list
pub none_left : {X : Type 0} (f : X → List Count) (xs : List X) (i : ℕ) → length xs ≤ i → None ≡ first_told (flat_map f (drop i xs))
none_left f xs i h = sym (ap (λ ys. first_told (flat_map f ys)) (drop_all i xs h))
