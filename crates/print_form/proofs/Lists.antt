-- Lists by their first parts.
use Rattle.std.proofs.Common.{◌≡◌, suc, ◌-◌, ◌≤◌, List, [], ◌∷◌, length, take, drop, get_or, refl, ap, ◌∙◌, arith}
use Rattle.std.specs.Prelude.{Some, None, slice_get}

-- a list with a first item, and none behind it
pub lone : {A : Type 0} (xs : List A) (x : A) → 1 ≤ length xs → x ≡ get_or xs 0 x → None ≡ slice_get (take (length xs - 1) (drop 1 xs)) 0 → xs ≡ x ∷ []
lone [] x some first end = absurd (omega (arith, some))
lone (y ∷ []) x some first end = cc
lone (y ∷ z ∷ ys) x some first end =
    let some' : slice_get (take (length (y ∷ z ∷ ys) - 1) (z ∷ ys)) 0 ≡ Some z = rw count refl in
    let bad = end ∙ some' in cc
  where
    count : length (y ∷ z ∷ ys) - 1 ≡ suc (length ys)
    count = omega arith

-- the item of a list of one
pub only_item : {A : Type 0} (xs : List A) (x y : A) → x ≡ get_or xs 0 x → xs ≡ y ∷ [] → x ≡ y
only_item xs x y first lone = first ∙ ap (λ l. get_or l 0 x) lone
