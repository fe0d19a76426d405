-- How many places parameters take, one after the other.
use Rattle.std.proofs.Common.{◌≡◌, ℕ, ◌+◌, ◌<◌, List, ◌∷◌, length, drop, drop-cons, get_or, add-one, refl, ap, ◌∙◌, arith}
use Rattle.std.specs.List.{filter_map}
use Rattle.jp_pred.specs.declared.ty.Ty.{Ty}
use Rattle.jp_pred.specs.declared.ty.Ty.TheVariants as ty
use Rattle.jp_meaning.specs.Descriptors.{kind_of_type}
use Rattle.jvm_table.specs.Descriptors.{places_of}
use Rattle.gen_code.specs.Emitted.{places_for}

places_first : (t : Ty) (ts : List Ty) → places_of (filter_map kind_of_type (t ∷ ts)) ≡ places_for (kind_of_type t) + places_of (filter_map kind_of_type ts)
places_first ty.Void ts = omega arith
places_first ty.Int ts = refl
places_first ty.Boolean ts = refl
places_first (ty.Class name) ts = refl
places_first ty.IntArray ts = refl
places_first ty.BooleanArray ts = refl
places_first (ty.ClassArray name) ts = refl

-- the places of one parameter and of those behind it
pub places_next : (ts : List Ty) (i : ℕ) (t : Ty) → i < length ts → t ≡ get_or ts i t
    → places_of (filter_map kind_of_type (drop i ts)) ≡ places_for (kind_of_type t) + places_of (filter_map kind_of_type (drop (i + 1) ts))
places_next ts i t lt e =
    let shown : drop i ts ≡ t ∷ drop (i + 1) ts = rw (add-one, drop-cons ts i t lt, ← e) refl in
    ap (λ x. places_of (filter_map kind_of_type x)) shown ∙ places_first t (drop (i + 1) ts)
