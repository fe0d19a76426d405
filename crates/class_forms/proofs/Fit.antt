-- A class whose names are short fits a file.
use Rattle.std.proofs.Common.{◌≡◌, ◌+◌, ◌<◌, ◌≤◌, true, List, [], ◌∷◌, length, Option, Some, None, arith}
use Rattle.std.specs.Prelude.{nat_lt}
use Rattle.std.specs.List.{list_all, filter_map, cons_option}
use Rattle.std.proofs.lemmas.Bool.{lt-ltb}
use Rattle.class_form.specs.declared.constant.Const.{Const}
use Rattle.class_form.specs.declared.constant.Const.TheVariants.{Unused}
use Rattle.class_form.specs.WellFormed.{pool_fits, is_spaced, text_fits, has_right_indices}
use Rattle.class_form.proofs.Facts.{and_four}
use Rattle.gen_laws.specs.Compiled.{name_of_part}
use Rattle.pool_laws.specs.Sound.{IsSound}
use Rattle.pool_laws.specs.Texts.{fits}
use Rattle.gen_class.specs.Asked.{class_constants}
use Rattle.class_forms.specs.Laws.{ShortClassIsFit}
use Rattle.class_forms.proofs.Sound.{class_sound}
use Rattle.class_forms.proofs.Fitting.{class_fits}

-- sound constants whose texts fit, and that aren't too many, fit
constants_fit : (list : List Const) → IsSound list → fits list ≡ true → 1 + length list < 65536 → pool_fits (Unused ∷ list) ≡ true
constants_fit list sound fit few =
    let all = Unused ∷ list in
    and_four (nat_lt (length all) 65536) (is_spaced true all) (list_all text_fits all) (list_all (has_right_indices all) all)
    (lt-ltb (length all) 65536 (omega (arith, few))) sound.spaced fit sound.right

-- no more are left than there were
module _ {A B : Type 0} (f : A → Option B) where
  one_left : (o : Option B) (ys : List B) → length (cons_option o ys) ≤ 1 + length ys
  one_left None ys = omega arith
  one_left (Some y) ys = omega arith

  few_left : (xs : List A) → length (filter_map f xs) ≤ length xs
  few_left [] = omega arith
  few_left (x ∷ xs) = let a = one_left (f x) (filter_map f xs) in let b = few_left xs in omega (arith, a, b)

pub class_is_fit : ShortClassIsFit
class_is_fit hier c short members few interfaces fields count =
    let list = class_constants hier c in
    let left = filter_map (λ m. name_of_part c.head m.part) c.members in
    let a = few_left (λ m. name_of_part c.head m.part) c.members in
    and_four (pool_fits (Unused ∷ list)) (nat_lt (length c.head.interfaces) 65536) (nat_lt (length c.head.fields) 65536) (nat_lt (length left) 65536)
    (constants_fit list (class_sound hier c) (class_fits hier c short members) few)
    (lt-ltb (length c.head.interfaces) 65536 interfaces) (lt-ltb (length c.head.fields) 65536 fields) (lt-ltb (length left) 65536 (omega (arith, a, count)))
