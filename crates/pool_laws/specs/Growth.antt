-- How constants grow.
use Rattle.std.specs.Prelude.{◌≡◌, ℕ, ◌+◌, ◌*◌, ◌≤◌, false, List, ◌++◌, length}
use Rattle.class_form.specs.declared.constant.Const.{Const}
use Rattle.class_form.specs.declared.constant.Const.TheVariants.{Utf8, Fieldref, Methodref, InterfaceMethodref}
use Rattle.class_form.specs.WellFormed.{is_wide}
use Rattle.code_asm.specs.declared.line.Named.{Named}
use Rattle.code_asm.specs.declared.line.Line.{Line}
use Rattle.code_asm.specs.Held.{hold, hold_class, hold_text, hold_name_and_type, hold_member, Extends}
use Rattle.code_asm.specs.Written.{hold_named, with_line, with_lines}

-- Lines keep the constants that are there, with their indices
abbrev pub LinesExtend : Type 0
LinesExtend = (list : List Const) (lines : List Line) → Extends list (with_lines list lines)

-- and so does whatever is held
pub record HoldingExtends : Type 0 where
  pub one : (list : List Const) (c : Const) → Extends list (hold list c).constants
  pub class : (list : List Const) (name : List ℕ) → Extends list (hold_class list name).constants
  pub literal : (list : List Const) (bytes : List ℕ) → Extends list (hold_text list bytes).constants
  pub name_and_type : (list : List Const) (name descriptor : List ℕ) → Extends list (hold_name_and_type list name descriptor).constants
  pub member : (kind : ℕ → ℕ → Const) (list : List Const) (class name descriptor : List ℕ) → Extends list (hold_member kind list class name descriptor).constants
  pub named : (list : List Const) (wanted : Named) → Extends list (hold_named list wanted).constants
  pub line : (list : List Const) (line : Line) → Extends list (with_line list line)

-- Lines add six constants each at most
abbrev pub LinesAddFew : Type 0
LinesAddFew = (list : List Const) (lines : List Line) → length (with_lines list lines) ≤ length list + 6 * length lines

-- and what is held adds itself and what it names at most
pub record HoldingAddsFew : Type 0 where
  -- a constant that takes one index
  pub one : (list : List Const) (c : Const) → is_wide c ≡ false → length (hold list c).constants ≤ length list + 1
  pub text : (list : List Const) (text : List ℕ) → length (hold list (Utf8 text)).constants ≤ length list + 1
  pub class : (list : List Const) (name : List ℕ) → length (hold_class list name).constants ≤ length list + 2
  pub literal : (list : List Const) (bytes : List ℕ) → length (hold_text list bytes).constants ≤ length list + 2
  pub name_and_type : (list : List Const) (name descriptor : List ℕ) → length (hold_name_and_type list name descriptor).constants ≤ length list + 3
  pub field : (list : List Const) (class name descriptor : List ℕ) → length (hold_member Fieldref list class name descriptor).constants ≤ length list + 6
  pub method : (list : List Const) (class name descriptor : List ℕ) → length (hold_member Methodref list class name descriptor).constants ≤ length list + 6
  pub interface_method : (list : List Const) (class name descriptor : List ℕ) → length (hold_member InterfaceMethodref list class name descriptor).constants ≤ length list + 6
  pub named : (list : List Const) (wanted : Named) → length (hold_named list wanted).constants ≤ length list + 6
  pub line : (list : List Const) (line : Line) → length (with_line list line) ≤ length list + 6

-- Lines ask for the same together as one part after the other
abbrev pub LinesAsk : Type 0
LinesAsk = (list : List Const) (first second : List Line) → with_lines list (first ++ second) ≡ with_lines (with_lines list first) second
