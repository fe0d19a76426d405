-- What is held is named by its index, whatever stands behind.
use Rattle.std.proofs.Common.{◌≡◌, ℕ, suc, ◌+◌, Bool, true, false, not, ◌||◌, ◌&&◌, cond, if◌then◌else◌, List, [], ◌∷◌, ◌++◌, refl, sym, ap, ◌∙◌, arith, append_assoc, true≢false, eqb}
use Rattle.std.proofs.lemmas.List.{append-nil}
use Rattle.std.proofs.lemmas.Bool.{eqb-true, false≢true, and_parts}
use Rattle.std.proofs.lemmas.Bool.Decides.{Decides-int_eq}
use Rattle.std.proofs.lemmas.Slice.Eq.{bytes_eq-Decides}
use Rattle.std.specs.Prelude.{slice_get}
use Rattle.std.specs.List.{list_any, position_or_len}
use Rattle.class_form.specs.declared.constant.Const.{Const}
use Rattle.class_form.specs.declared.constant.Const.TheVariants.{Unused, Utf8, Integer, Long, Class, Text, Fieldref, Methodref, InterfaceMethodref, NameAndType}
use Rattle.class_form.specs.WellFormed.{is_wide, is_utf8, is_class, is_name_and_type, is_of, names}
use Rattle.code_asm.specs.Held.{Held, is_same, with_rest, hold, hold_class, hold_text, hold_name_and_type, hold_member}
use Rattle.pool_laws.specs.Kinds.{is_integer, is_literal, is_field, is_method, is_interface_method, IsNamed, HeldIsNamed}

pair_is : (kind : ℕ → ℕ → Const) (a m b n : ℕ) → (eqb a b && eqb m n) ≡ true → kind a m ≡ kind b n
pair_is kind a m b n h = let p = and_parts (eqb a b) (eqb m n) h in ap (λ x. kind x m) (eqb-true a b p.0) ∙ ap (kind b) (eqb-true m n p.1)

-- constants that are the same are equal
same_is : (c x : Const) → is_same c x ≡ true → c ≡ x
same_is (Utf8 a) (Utf8 b) h = ap Utf8 ((bytes_eq-Decides a b).0 h)
same_is (Integer a) (Integer b) h = ap Integer ((Decides-int_eq a b).0 h)
same_is (Long a) (Long b) h = ap Long ((Decides-int_eq a b).0 h)
same_is (Class a) (Class b) h = ap Class (eqb-true a b h)
same_is (Text a) (Text b) h = ap Text (eqb-true a b h)
same_is (Fieldref a m) (Fieldref b n) h = pair_is Fieldref a m b n h
same_is (Methodref a m) (Methodref b n) h = pair_is Methodref a m b n h
same_is (InterfaceMethodref a m) (InterfaceMethodref b n) h = pair_is InterfaceMethodref a m b n h
same_is (NameAndType a m) (NameAndType b n) h = pair_is NameAndType a m b n h
same_is _ _ h = absurd (false≢true h)

module _ (kind : Const → Bool) where
  -- the first constant that is the same, or the one behind all where none is
  first_of_kind : (c : Const) → kind c ≡ true → (list behind : List Const) → (list_any (is_same c) list ≡ false → is_of kind (slice_get behind 0) ≡ true)
      → is_of kind (slice_get (list ++ behind) (position_or_len (is_same c) list)) ≡ true
  first_of_kind c is [] behind h = h refl
  first_of_kind c is (x ∷ xs) behind h = by_test (is_same c x) refl h (first_of_kind c is xs behind)
    where
      by_test : (b : Bool) → is_same c x ≡ b → ((b || list_any (is_same c) xs) ≡ false → is_of kind (slice_get behind 0) ≡ true)
          → ((list_any (is_same c) xs ≡ false → is_of kind (slice_get behind 0) ≡ true) → is_of kind (slice_get (xs ++ behind) (position_or_len (is_same c) xs)) ≡ true)
          → is_of kind (slice_get (x ∷ (xs ++ behind)) (cond (not b) (1 + position_or_len (is_same c) xs) 0)) ≡ true
      by_test true e g later = ap kind (sym (same_is c x e)) ∙ is
      by_test false e g later =
          let n : 1 + position_or_len (is_same c) xs ≡ suc (position_or_len (is_same c) xs) = omega arith in
          ap (λ i. is_of kind (slice_get (x ∷ (xs ++ behind)) i)) n ∙ later g

  -- a constant that is held is of its kinds
  held_of_kind : (list : List Const) (c : Const) → kind c ≡ true → (more : List Const) → names kind (Unused ∷ ((hold list c).constants ++ more)) (hold list c).index ≡ true
  unfolding hold
  held_of_kind list c is more =
      let n : 1 + position_or_len (is_same c) list ≡ suc (position_or_len (is_same c) list) = omega arith in
      ap (names kind (Unused ∷ ((hold list c).constants ++ more))) n ∙ by_test (list_any (is_same c) list) refl
    where
      begins : (b : Bool) → is_of kind (slice_get ((if b then c ∷ Unused ∷ [] else c ∷ []) ++ more) 0) ≡ true
      begins true = is
      begins false = is

      by_test : (b : Bool) → list_any (is_same c) list ≡ b → is_of kind (slice_get ((if b then list else list ++ with_rest c) ++ more) (position_or_len (is_same c) list)) ≡ true
      by_test true e = first_of_kind c is list more (λ none. absurd (true≢false (sym e ∙ none)))
      by_test false e =
          ap (λ l. is_of kind (slice_get l (position_or_len (is_same c) list))) (append_assoc list (with_rest c) more)
          ∙ first_of_kind c is list (with_rest c ++ more) (λ none. begins (is_wide c))

  named_by : (held : Held) → ((more : List Const) → names kind (Unused ∷ (held.constants ++ more)) held.index ≡ true) → IsNamed kind held
  named_by held h = record {
    here = ap (λ l. names kind (Unused ∷ l) held.index) (sym (append-nil held.constants)) ∙ h [];
    longer = λ list e. ap (λ l. names kind (Unused ∷ l) held.index) e.1 ∙ h e.0;
  }

pub one_named : (list : List Const) (c : Const) (kind : Const → Bool) → kind c ≡ true → IsNamed kind (hold list c)
one_named list c kind is = named_by kind (hold list c) (held_of_kind kind list c is)

pub class_named : (list : List Const) (name : List ℕ) → IsNamed is_class (hold_class list name)
unfolding hold_class
class_named list name = let t = hold list (Utf8 name) in one_named t.constants (Class t.index) is_class refl

pub literal_named : (list : List Const) (bytes : List ℕ) → IsNamed is_literal (hold_text list bytes)
unfolding hold_text
literal_named list bytes = let t = hold list (Utf8 bytes) in one_named t.constants (Text t.index) is_literal refl

pub type_named : (list : List Const) (name descriptor : List ℕ) → IsNamed is_name_and_type (hold_name_and_type list name descriptor)
unfolding hold_name_and_type
type_named list name descriptor =
    let n = hold list (Utf8 name) in
    let d = hold n.constants (Utf8 descriptor) in
    one_named d.constants (NameAndType n.index d.index) is_name_and_type refl

module _ (kind : ℕ → ℕ → Const) (test : Const → Bool) (is : (class name : ℕ) → test (kind class name) ≡ true) where
  pub member_named : (list : List Const) (class name descriptor : List ℕ) → IsNamed test (hold_member kind list class name descriptor)
  unfolding hold_member
  member_named list class name descriptor =
      let c = hold_class list class in
      let m = hold_name_and_type c.constants name descriptor in
      one_named m.constants (kind c.index m.index) test (is c.index m.index)

pub held_named : HeldIsNamed
held_named = record {
  one = one_named;
  text = λ list text. one_named list (Utf8 text) is_utf8 refl;
  integer = λ list n. one_named list (Integer n) is_integer refl;
  class = class_named;
  literal = literal_named;
  name_and_type = type_named;
  field = member_named Fieldref is_field (λ class name. refl);
  method = member_named Methodref is_method (λ class name. refl);
  interface_method = member_named InterfaceMethodref is_interface_method (λ class name. refl);
}
