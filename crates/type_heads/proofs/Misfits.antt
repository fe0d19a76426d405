-- Parts and the types at their places, one after the other.
use Rattle.std.proofs.Common.{◌≡◌, ℕ, zero, suc, ◌+◌, ◌<◌, List, [], ◌∷◌, length, drop, get_or, false, Some, None, refl, ◌∙◌, ap, subst, sym, add-one}
use Rattle.std.specs.Prelude.{◌||◌, slice_get}
use Rattle.std.proofs.Math.Seq.{drop-length}
use Rattle.jp_pred.specs.declared.ty.Ty.{Ty}
use Rattle.iface_codec.specs.declared.iface.Iface.{Iface}
use Rattle.type_rules.specs.declared.seen.Seen.{Seen}
use Rattle.type_rules.specs.Assigning.{misfit, some_misfit}
use Rattle.type_heads.proofs.Levels.{at_place}

drop_none : {A : Type 0} (xs : List A) (i : ℕ) → slice_get xs i ≡ None → drop i xs ≡ []
drop_none [] zero e = refl
drop_none [] (suc i) e = refl
drop_none (x ∷ xs) zero e = absurd cc
drop_none (x ∷ xs) (suc i) e = drop_none xs i e

drop_some : {A : Type 0} (xs : List A) (i : ℕ) (y : A) → slice_get xs i ≡ Some y → drop i xs ≡ y ∷ drop (suc i) xs
drop_some [] i y e = absurd cc
drop_some (x ∷ xs) zero y e = let s : x ≡ y = cc in ap (λ z. z ∷ xs) s
drop_some (x ∷ xs) (suc i) y e = drop_some xs i y e

-- a part without a type at its place
pub no_type : (heads : List Iface) (parts : List Seen) (types : List Ty) (i : ℕ) (x : Seen) → i < length parts → x ≡ get_or parts i x → None ≡ slice_get types i → false ≡ some_misfit heads (drop i parts) (drop i types)
no_type heads parts types i x l e n =
    sym (ap (λ ps. some_misfit heads ps (drop i types)) (at_place parts i x l e) ∙ ap (some_misfit heads (x ∷ drop (i + 1) parts)) (drop_none types i (sym n)))

-- a part with one
pub one_part : (heads : List Iface) (parts : List Seen) (types : List Ty) (i : ℕ) (x : Seen) (t : Ty) → i < length parts → x ≡ get_or parts i x → Some t ≡ slice_get types i →
    (misfit heads x t || some_misfit heads (drop (i + 1) parts) (drop (i + 1) types)) ≡ some_misfit heads (drop i parts) (drop i types)
one_part heads parts types i x t l e n =
    sym (ap (λ ps. some_misfit heads ps (drop i types)) (at_place parts i x l e)
    ∙ (ap (some_misfit heads (x ∷ drop (i + 1) parts)) (drop_some types i t (sym n))
    ∙ ap (λ (j : ℕ). misfit heads x t || some_misfit heads (drop (i + 1) parts) (drop j types)) (sym (add-one i))))

-- behind the last part
pub no_part : (heads : List Iface) (parts : List Seen) (ts : List Ty) (i : ℕ) → i ≡ length parts → false ≡ some_misfit heads (drop i parts) ts
no_part heads parts ts i e = sym (ap (λ ps. some_misfit heads ps ts) (ap (λ (j : ℕ). drop j parts) e ∙ drop-length parts))
