-- Lists of names and of types, place by place.
use Rattle.std.proofs.Common.{◌≡◌, ℕ, zero, suc, ◌+◌, ◌-◌, ◌<◌, List, [], ◌∷◌, length, take, drop, get_or, false, refl, sym, ◌∙◌, ap, subst, add-one, arith, length-drop}
use Rattle.std.specs.Prelude.{◌||◌, ◌&&◌, slice_get}
use Rattle.std.specs.Option.{is_none}
use Rattle.std.proofs.lemmas.List.{take_all}
use Rattle.std.proofs.Math.Seq.{drop-length}
use Rattle.jp_pred.specs.declared.ty.Ty.{Ty}
use Rattle.jp_pred.specs.Names.{Word}
use Rattle.type_rules.specs.Types.{is_among, all_agree}
use Rattle.type_rules.specs.RulesOfDeclarations.{has_twice}
use Rattle.type_heads.proofs.Levels.{at_place}
use Rattle.decl_rules.specs.Pairs.{agree_at}

-- what is behind a place, as a part of the list
pub tail_is : {A : Type 0} (xs : List A) (k : ℕ) → take (length xs - k) (drop k xs) ≡ drop k xs
tail_is xs k = take_all (length xs - k) (drop k xs) (omega (arith, length-drop k xs))

-- NAMES THAT STAND TWICE

pub one_name : (names : List Word) (i : ℕ) (n : Word) → i < length names → n ≡ get_or names i n → (is_among n (drop (i + 1) names) || has_twice (drop (i + 1) names)) ≡ has_twice (drop i names)
one_name names i n l e = sym (ap has_twice (at_place names i n l e))

pub no_name : (names : List Word) (i : ℕ) → i ≡ length names → false ≡ has_twice (drop i names)
no_name names i e = sym (ap (λ (j : ℕ). has_twice (drop j names)) e ∙ ap has_twice (drop-length names))

-- TYPES THAT AGREE

drop_nil : (i : ℕ) → drop i (let ts : List Ty = [] in ts) ≡ []
drop_nil zero = refl
drop_nil (suc i) = refl

pair : (ts us : List Ty) (i : ℕ) → i < length ts → (agree_at ts us i && all_agree (drop (suc i) ts) (drop (suc i) us)) ≡ all_agree (drop i ts) (drop i us)
pair [] us i l = absurd (omega arith)
pair (t ∷ ts) [] zero l = refl
pair (t ∷ ts) [] (suc i) l = pair ts [] i (omega arith) ∙ ap (all_agree (drop i ts)) (drop_nil i)
pair (t ∷ ts) (u ∷ us) zero l = refl
pair (t ∷ ts) (u ∷ us) (suc i) l = pair ts us i (omega arith)

pub next_pair : (ts us : List Ty) (i : ℕ) → i < length ts → (agree_at ts us i && all_agree (drop (i + 1) ts) (drop (i + 1) us)) ≡ all_agree (drop i ts) (drop i us)
next_pair ts us i l = subst (λ (j : ℕ). (agree_at ts us i && all_agree (drop j ts) (drop j us)) ≡ all_agree (drop i ts) (drop i us)) (sym (add-one i)) (pair ts us i l)

-- what is behind the first list
behind : (us : List Ty) (i : ℕ) → is_none (slice_get us i) ≡ all_agree [] (drop i us)
behind [] zero = refl
behind [] (suc i) = refl
behind (u ∷ us) zero = refl
behind (u ∷ us) (suc i) = behind us i

pub last_pair : (ts us : List Ty) (i : ℕ) → i ≡ length ts → is_none (slice_get us i) ≡ all_agree (drop i ts) (drop i us)
last_pair ts us i e = behind us i ∙ sym (ap (λ (vs : List Ty). all_agree vs (drop i us)) (ap (λ (j : ℕ). drop j ts) e ∙ drop-length ts))
