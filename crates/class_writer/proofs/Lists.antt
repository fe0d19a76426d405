-- Facts of each item of a list that passes a test.
use Rattle.std.proofs.Common.{◌≡◌, ℕ, zero, suc, ◌+◌, ◌<◌, Bool, true, List, [], ◌∷◌, ◌++◌, length, get_or, take, sym, ap, ◌∙◌, arith}
use Rattle.std.specs.Prelude.{flat_map}
use Rattle.std.proofs.lemmas.List.{take_more, flat_map_more}
use Rattle.std.specs.List.{list_all}
use Rattle.class_form.proofs.Facts.{both}

pub passes_at : {X : Type 0} (p : X → Bool) (xs : List X) (i : ℕ) (d : X) → list_all p xs ≡ true → i < length xs → p (get_or xs i d) ≡ true
passes_at p [] i d h lt = absurd (omega (arith, lt))
passes_at p (x ∷ xs) zero d h lt = (both (p x) (list_all p xs) h).0
passes_at p (x ∷ xs) (suc i) d h lt = passes_at p xs i d (both (p x) (list_all p xs) h).1 (omega (arith, lt))

pub piece_more : {X : Type 0} (f : X → List ℕ) (front out out' : List ℕ) (xs : List X) (i : ℕ) (x : X) → out ≡ front ++ flat_map f (take i xs) → out' ≡ out ++ f x → i < length xs → x ≡ get_or xs i x → out' ≡ front ++ flat_map f (take (i + 1) xs)
piece_more f front out out' xs i x before now lt is =
    let k : take (i + 1) xs ≡ take i xs ++ x ∷ [] = take_more xs i x lt ∙ ap (λ y. take i xs ++ y ∷ []) (sym is) in
    now ∙ ap (λ o. o ++ f x) before ∙ flat_map_more f front (take i xs) x ∙ ap (λ ys. front ++ flat_map f ys) (sym k)
