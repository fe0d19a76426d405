-- That texts fit: each has at most 65,535 bytes, and none that a text can't have.
use Rattle.std.specs.Prelude.{◌≡◌, ℕ, Bool, true, List, [], ◌∷◌}
use Rattle.std.specs.List.{list_all}
use Rattle.class_form.specs.declared.constant.Const.{Const}
use Rattle.class_form.specs.declared.constant.Const.TheVariants.{Utf8, Fieldref, Methodref, InterfaceMethodref}
use Rattle.class_form.specs.WellFormed.{text_fits}
use Rattle.code_asm.specs.declared.line.MemberName.{MemberName}
use Rattle.code_asm.specs.declared.line.Named.{Named}
use Rattle.code_asm.specs.declared.line.Named.TheVariants as named_form
use Rattle.code_asm.specs.declared.line.Line.{Line}
use Rattle.code_asm.specs.declared.line.Line.TheVariants as line_form
use Rattle.code_asm.specs.Held.{hold, hold_class, hold_text, hold_name_and_type, hold_member}
use Rattle.code_asm.specs.Written.{hold_named, with_line, with_lines}

-- whether each text of constants fits
abbrev pub fits : List Const → Bool
fits list = list_all text_fits list

-- whether bytes do as a text
abbrev pub is_fit : List ℕ → Bool
is_fit text = text_fits (Utf8 text)

-- the texts of a member, of what an instruction names, and of a line
abbrev pub member_texts : MemberName → List (List ℕ)
member_texts m = m.class ∷ m.name ∷ m.descriptor ∷ []

abbrev pub named_texts : Named → List (List ℕ)
named_texts (named_form.Int n) = []
named_texts (named_form.Text bytes) = bytes ∷ []
named_texts (named_form.Class name) = name ∷ []
named_texts (named_form.Field m) = member_texts m
named_texts (named_form.Method m) = member_texts m

abbrev pub line_texts : Line → List (List ℕ)
line_texts (line_form.Plain instr) = []
line_texts (line_form.Uses use_ wanted) = named_texts wanted
line_texts (line_form.CallsInterface m count) = member_texts m
line_texts (line_form.Branch jump label) = []
line_texts (line_form.Mark label) = []

-- whether each text that a line names fits
abbrev pub line_fits : Line → Bool
line_fits l = list_all is_fit (line_texts l)

-- where the texts of constants fit, and those of lines, they fit with what the lines name
pub record LinesKeepTexts : Type 0 where
  pub line : (list : List Const) (l : Line) → fits list ≡ true → line_fits l ≡ true → fits (with_line list l) ≡ true
  pub lines : (list : List Const) (lines : List Line) → fits list ≡ true → list_all line_fits lines ≡ true → fits (with_lines list lines) ≡ true

-- where the texts of constants fit, and those of what is held, they fit with it
pub record HoldingKeepsTexts : Type 0 where
  pub one : (list : List Const) (c : Const) → fits list ≡ true → text_fits c ≡ true → fits (hold list c).constants ≡ true
  pub text : (list : List Const) (text : List ℕ) → fits list ≡ true → is_fit text ≡ true → fits (hold list (Utf8 text)).constants ≡ true
  pub class : (list : List Const) (name : List ℕ) → fits list ≡ true → is_fit name ≡ true → fits (hold_class list name).constants ≡ true
  pub literal : (list : List Const) (bytes : List ℕ) → fits list ≡ true → is_fit bytes ≡ true → fits (hold_text list bytes).constants ≡ true
  pub name_and_type : (list : List Const) (name descriptor : List ℕ) → fits list ≡ true → is_fit name ≡ true → is_fit descriptor ≡ true → fits (hold_name_and_type list name descriptor).constants ≡ true
  pub field : (list : List Const) (class name descriptor : List ℕ) → fits list ≡ true → is_fit class ≡ true → is_fit name ≡ true → is_fit descriptor ≡ true
      → fits (hold_member Fieldref list class name descriptor).constants ≡ true
  pub method : (list : List Const) (class name descriptor : List ℕ) → fits list ≡ true → is_fit class ≡ true → is_fit name ≡ true → is_fit descriptor ≡ true
      → fits (hold_member Methodref list class name descriptor).constants ≡ true
  pub interface_method : (list : List Const) (class name descriptor : List ℕ) → fits list ≡ true → is_fit class ≡ true → is_fit name ≡ true → is_fit descriptor ≡ true
      → fits (hold_member InterfaceMethodref list class name descriptor).constants ≡ true
  pub named : (list : List Const) (wanted : Named) → fits list ≡ true → list_all is_fit (named_texts wanted) ≡ true → fits (hold_named list wanted).constants ≡ true
