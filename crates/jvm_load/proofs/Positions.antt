-- Positions in a list that is made of another.
use Rattle.std.proofs.Common.{◌≡◌, ◌+◌, Bool, List, [], ◌∷◌, length, map, Some, None, refl, ap, ◌∙◌, nat_lt}
use Rattle.std.specs.Prelude.{position, not, cond, if◌then◌else◌}
use Rattle.std.specs.List.{prefix_len, position_or_len}
use Rattle.std.proofs.lemmas.List.{length-map}

prefix_map : {A B : Type 0} (f : A → B) (p : B → Bool) (xs : List A) → prefix_len p (map f xs) ≡ prefix_len (λ x. p (f x)) xs
prefix_map f p [] = refl
prefix_map f p (x ∷ xs) = ap (λ n. cond (p (f x)) (1 + n) 0) (prefix_map f p xs)

pub position_map : {A B : Type 0} (f : A → B) (p : B → Bool) (xs : List A) → position p (map f xs) ≡ position (λ x. p (f x)) xs
position_map f p xs =
    ap (λ n. if nat_lt n (length (map f xs)) then Some n else None) (prefix_map f (λ x. not (p x)) xs)
    ∙ ap (λ l. if nat_lt (position_or_len (λ x. p (f x)) xs) l then Some (position_or_len (λ x. p (f x)) xs) else None) (length-map xs f)
