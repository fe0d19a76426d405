-- The texts of constants keep fitting.
use Rattle.std.proofs.Common.{◌≡◌, ℕ, Bool, true, false, ◌&&◌, if◌then◌else◌, List, [], ◌∷◌, ◌++◌, refl, ap, ◌∙◌}
use Rattle.std.proofs.lemmas.Bool.{and_parts, and_from}
use Rattle.std.proofs.lemmas.List.Folds.{list_all-append}
use Rattle.std.specs.List.{list_any, list_all}
use Rattle.class_form.specs.declared.constant.Const.{Const}
use Rattle.class_form.specs.declared.constant.Const.TheVariants.{Unused, Utf8, Integer, Class, Text, Fieldref, Methodref, InterfaceMethodref, NameAndType}
use Rattle.class_form.specs.WellFormed.{is_wide, text_fits}
use Rattle.code_asm.specs.declared.line.MemberName.{MemberName}
use Rattle.code_asm.specs.declared.line.Named.{Named}
use Rattle.code_asm.specs.declared.line.Named.TheVariants as named_form
use Rattle.code_asm.specs.declared.line.Line.{Line}
use Rattle.code_asm.specs.declared.line.Line.TheVariants as line_form
use Rattle.code_asm.specs.Held.{is_same, with_rest, hold, hold_class, hold_text, hold_name_and_type, hold_member}
use Rattle.code_asm.specs.Written.{hold_named, with_line, with_lines}
use Rattle.pool_laws.specs.Texts.{fits, is_fit, member_texts, named_texts, line_fits, LinesKeepTexts, HoldingKeepsTexts}

pub one_fits : (list : List Const) (c : Const) → fits list ≡ true → text_fits c ≡ true → fits (hold list c).constants ≡ true
unfolding hold
one_fits list c all fit = by_test (list_any (is_same c) list)
  where
    last : (b : Bool) → list_all text_fits (if b then c ∷ Unused ∷ [] else c ∷ []) ≡ true
    last true = ap (λ b. b && true) fit
    last false = ap (λ b. b && true) fit

    by_test : (b : Bool) → list_all text_fits (if b then list else list ++ with_rest c) ≡ true
    by_test true = all
    by_test false = list_all-append text_fits list (with_rest c) ∙ and_from (list_all text_fits list) (list_all text_fits (with_rest c)) all (last (is_wide c))

pub class_fits : (list : List Const) (name : List ℕ) → fits list ≡ true → is_fit name ≡ true → fits (hold_class list name).constants ≡ true
unfolding hold_class
class_fits list name all fit = let t = hold list (Utf8 name) in one_fits t.constants (Class t.index) (one_fits list (Utf8 name) all fit) refl

pub literal_fits : (list : List Const) (bytes : List ℕ) → fits list ≡ true → is_fit bytes ≡ true → fits (hold_text list bytes).constants ≡ true
unfolding hold_text
literal_fits list bytes all fit = let t = hold list (Utf8 bytes) in one_fits t.constants (Text t.index) (one_fits list (Utf8 bytes) all fit) refl

pub type_fits : (list : List Const) (name descriptor : List ℕ) → fits list ≡ true → is_fit name ≡ true → is_fit descriptor ≡ true → fits (hold_name_and_type list name descriptor).constants ≡ true
unfolding hold_name_and_type
type_fits list name descriptor all first second =
    let n = hold list (Utf8 name) in
    let d = hold n.constants (Utf8 descriptor) in
    one_fits d.constants (NameAndType n.index d.index) (one_fits n.constants (Utf8 descriptor) (one_fits list (Utf8 name) all first) second) refl

-- a kind of members
module _ (kind : ℕ → ℕ → Const) (none : (class name : ℕ) → text_fits (kind class name) ≡ true) where
  pub member_fits : (list : List Const) (class name descriptor : List ℕ) → fits list ≡ true → is_fit class ≡ true → is_fit name ≡ true → is_fit descriptor ≡ true
      → fits (hold_member kind list class name descriptor).constants ≡ true
  unfolding hold_member
  member_fits list class name descriptor all first second third =
      let c = hold_class list class in
      let m = hold_name_and_type c.constants name descriptor in
      one_fits m.constants (kind c.index m.index) (type_fits c.constants name descriptor (class_fits list class all first) second third) (none c.index m.index)

  pub member_named_fits : (list : List Const) (m : MemberName) → fits list ≡ true → list_all is_fit (member_texts m) ≡ true → fits (hold_member kind list m.class m.name m.descriptor).constants ≡ true
  member_named_fits list m all h =
      let p = and_parts (is_fit m.class) (is_fit m.name && (is_fit m.descriptor && true)) h in
      let q = and_parts (is_fit m.name) (is_fit m.descriptor && true) p.1 in
      member_fits list m.class m.name m.descriptor all p.0 q.0 (and_parts (is_fit m.descriptor) true q.1).0

pub named_fits : (list : List Const) (wanted : Named) → fits list ≡ true → list_all is_fit (named_texts wanted) ≡ true → fits (hold_named list wanted).constants ≡ true
named_fits list (named_form.Int n) all h = one_fits list (Integer n) all refl
named_fits list (named_form.Text bytes) all h = literal_fits list bytes all (and_parts (is_fit bytes) true h).0
named_fits list (named_form.Class name) all h = class_fits list name all (and_parts (is_fit name) true h).0
named_fits list (named_form.Field m) all h = member_named_fits Fieldref (λ class name. refl) list m all h
named_fits list (named_form.Method m) all h = member_named_fits Methodref (λ class name. refl) list m all h

pub with_line_fits : (list : List Const) (l : Line) → fits list ≡ true → line_fits l ≡ true → fits (with_line list l) ≡ true
with_line_fits list (line_form.Plain instr) all h = all
with_line_fits list (line_form.Uses use_ wanted) all h = named_fits list wanted all h
with_line_fits list (line_form.CallsInterface m count) all h = member_named_fits InterfaceMethodref (λ class name. refl) list m all h
with_line_fits list (line_form.Branch jump label) all h = all
with_line_fits list (line_form.Mark label) all h = all

pub with_lines_fit : (list : List Const) (lines : List Line) → fits list ≡ true → list_all line_fits lines ≡ true → fits (with_lines list lines) ≡ true
with_lines_fit list [] all h = all
with_lines_fit list (l ∷ ls) all h =
    let p = and_parts (line_fits l) (list_all line_fits ls) h in
    with_lines_fit (with_line list l) ls (with_line_fits list l all p.0) p.1

pub texts_kept : LinesKeepTexts
texts_kept = record { line = with_line_fits; lines = with_lines_fit }

pub held_texts_kept : HoldingKeepsTexts
held_texts_kept = record {
  one = one_fits;
  text = λ list text all fit. one_fits list (Utf8 text) all fit;
  class = class_fits;
  literal = literal_fits;
  name_and_type = type_fits;
  field = member_fits Fieldref (λ class name. refl);
  method = member_fits Methodref (λ class name. refl);
  interface_method = member_fits InterfaceMethodref (λ class name. refl);
  named = named_fits;
}
