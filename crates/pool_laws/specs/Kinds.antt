-- That what is held is named by its index.
use Rattle.std.specs.Prelude.{◌≡◌, ℕ, ℤ, Bool, true, false, List, ◌∷◌}
use Rattle.class_form.specs.declared.constant.Const.{Const}
use Rattle.class_form.specs.declared.constant.Const.TheVariants.{Unused, Utf8, Integer, Text, Fieldref, Methodref, InterfaceMethodref}
use Rattle.class_form.specs.WellFormed.{is_utf8, is_class, is_name_and_type, names}
use Rattle.code_asm.specs.Held.{Held, hold, hold_class, hold_text, hold_name_and_type, hold_member, Extends}

-- the kinds of constants beside those of class_form
abbrev pub is_integer : Const → Bool
is_integer (Integer n) = true
is_integer _ = false

abbrev pub is_literal : Const → Bool
is_literal (Text text) = true
is_literal _ = false

abbrev pub is_field : Const → Bool
is_field (Fieldref class name) = true
is_field _ = false

abbrev pub is_method : Const → Bool
is_method (Methodref class name) = true
is_method _ = false

abbrev pub is_interface_method : Const → Bool
is_interface_method (InterfaceMethodref class name) = true
is_interface_method _ = false

-- the index names a constant of a kind, among the constants and among any that they go on to
pub record IsNamed (kind : Const → Bool) (held : Held) : Type 0 where
  pub here : names kind (Unused ∷ held.constants) held.index ≡ true
  pub longer : (list : List Const) → Extends held.constants list → names kind (Unused ∷ list) held.index ≡ true

-- the index of what is held names a constant of its kind
pub record HeldIsNamed : Type 0 where
  -- of each kind that the constant is of
  pub one : (list : List Const) (c : Const) (kind : Const → Bool) → kind c ≡ true → IsNamed kind (hold list c)
  pub text : (list : List Const) (text : List ℕ) → IsNamed is_utf8 (hold list (Utf8 text))
  pub integer : (list : List Const) (n : ℤ) → IsNamed is_integer (hold list (Integer n))
  pub class : (list : List Const) (name : List ℕ) → IsNamed is_class (hold_class list name)
  pub literal : (list : List Const) (bytes : List ℕ) → IsNamed is_literal (hold_text list bytes)
  pub name_and_type : (list : List Const) (name descriptor : List ℕ) → IsNamed is_name_and_type (hold_name_and_type list name descriptor)
  pub field : (list : List Const) (class name descriptor : List ℕ) → IsNamed is_field (hold_member Fieldref list class name descriptor)
  pub method : (list : List Const) (class name descriptor : List ℕ) → IsNamed is_method (hold_member Methodref list class name descriptor)
  pub interface_method : (list : List Const) (class name descriptor : List ℕ) → IsNamed is_interface_method (hold_member InterfaceMethodref list class name descriptor)
