-- When constants are as a class file needs them, their number and their texts aside.
use Rattle.std.specs.Prelude.{◌≡◌, ℕ, ℤ, true, false, List, [], ◌∷◌}
use Rattle.std.specs.List.{list_all}
use Rattle.class_form.specs.declared.constant.Const.{Const}
use Rattle.class_form.specs.declared.constant.Const.TheVariants.{Unused, Utf8, Integer, Fieldref, Methodref, InterfaceMethodref}
use Rattle.class_form.specs.WellFormed.{is_unused, is_spaced, has_right_indices}
use Rattle.code_asm.specs.declared.line.Named.{Named}
use Rattle.code_asm.specs.declared.line.Line.{Line}
use Rattle.code_asm.specs.Held.{hold, hold_class, hold_text, hold_name_and_type, hold_member}
use Rattle.code_asm.specs.Written.{hold_named, with_line, with_lines}

-- constants from index 1 on: Unused stands where it has to, and each constant's indices name constants of the right kinds
pub record IsSound (list : List Const) : Type 0 where
  pub spaced : is_spaced true (Unused ∷ list) ≡ true
  pub right : list_all (has_right_indices (Unused ∷ list)) list ≡ true

-- no constants are sound, and sound ones stay so with what lines name
pub record LinesKeepSoundness : Type 0 where
  pub none : IsSound []
  pub line : (list : List Const) (line : Line) → IsSound list → IsSound (with_line list line)
  pub lines : (list : List Const) (lines : List Line) → IsSound list → IsSound (with_lines list lines)

-- sound constants stay so with what is held
pub record HoldingKeepsSoundness : Type 0 where
  -- any constant whose indices are right
  pub one : (list : List Const) (c : Const) → is_unused c ≡ false → has_right_indices (Unused ∷ list) c ≡ true → IsSound list → IsSound (hold list c).constants
  pub text : (list : List Const) (text : List ℕ) → IsSound list → IsSound (hold list (Utf8 text)).constants
  pub integer : (list : List Const) (n : ℤ) → IsSound list → IsSound (hold list (Integer n)).constants
  pub class : (list : List Const) (name : List ℕ) → IsSound list → IsSound (hold_class list name).constants
  pub literal : (list : List Const) (bytes : List ℕ) → IsSound list → IsSound (hold_text list bytes).constants
  pub name_and_type : (list : List Const) (name descriptor : List ℕ) → IsSound list → IsSound (hold_name_and_type list name descriptor).constants
  pub field : (list : List Const) (class name descriptor : List ℕ) → IsSound list → IsSound (hold_member Fieldref list class name descriptor).constants
  pub method : (list : List Const) (class name descriptor : List ℕ) → IsSound list → IsSound (hold_member Methodref list class name descriptor).constants
  pub interface_method : (list : List Const) (class name descriptor : List ℕ) → IsSound list → IsSound (hold_member InterfaceMethodref list class name descriptor).constants
  pub named : (list : List Const) (wanted : Named) → IsSound list → IsSound (hold_named list wanted).constants
