-- Whatever is held, the constants go on.
use Rattle.std.proofs.Common.{ℕ, Bool, true, false, if◌then◌else◌, List, [], ◌∷◌, ◌++◌, refl, sym, ap, ◌∙◌, append_assoc}
use Rattle.std.proofs.lemmas.List.{append-nil}
use Rattle.std.specs.List.{list_any}
use Rattle.class_form.specs.declared.constant.Const.{Const}
use Rattle.class_form.specs.declared.constant.Const.TheVariants.{Utf8, Integer, Class, Text, Fieldref, Methodref, InterfaceMethodref, NameAndType}
use Rattle.code_asm.specs.declared.line.Named.{Named}
use Rattle.code_asm.specs.declared.line.Named.TheVariants as named_form
use Rattle.code_asm.specs.declared.line.Line.{Line}
use Rattle.code_asm.specs.declared.line.Line.TheVariants as line_form
use Rattle.code_asm.specs.Held.{is_same, with_rest, hold, hold_class, hold_text, hold_name_and_type, hold_member, Extends}
use Rattle.code_asm.specs.Written.{hold_named, with_line, with_lines}
use Rattle.pool_laws.specs.Growth.{LinesExtend, HoldingExtends, LinesAsk}

pub stays : (list : List Const) → Extends list list
stays list = ([], sym (append-nil list))

pub goes_on : (a b c : List Const) → Extends a b → Extends b c → Extends a c
goes_on a b c e f = (e.0 ++ f.0, f.1 ∙ ap (λ l. l ++ f.0) e.1 ∙ append_assoc a e.0 f.0)

pub one_extends : (list : List Const) (c : Const) → Extends list (hold list c).constants
unfolding hold
one_extends list c = by_test (list_any (is_same c) list)
  where
    by_test : (b : Bool) → Extends list (if b then list else list ++ with_rest c)
    by_test true = stays list
    by_test false = (with_rest c, refl)

pub class_extends : (list : List Const) (name : List ℕ) → Extends list (hold_class list name).constants
unfolding hold_class
class_extends list name =
    let t = hold list (Utf8 name) in
    goes_on list t.constants (hold t.constants (Class t.index)).constants (one_extends list (Utf8 name)) (one_extends t.constants (Class t.index))

pub literal_extends : (list : List Const) (bytes : List ℕ) → Extends list (hold_text list bytes).constants
unfolding hold_text
literal_extends list bytes =
    let t = hold list (Utf8 bytes) in
    goes_on list t.constants (hold t.constants (Text t.index)).constants (one_extends list (Utf8 bytes)) (one_extends t.constants (Text t.index))

pub type_extends : (list : List Const) (name descriptor : List ℕ) → Extends list (hold_name_and_type list name descriptor).constants
unfolding hold_name_and_type
type_extends list name descriptor =
    let n = hold list (Utf8 name) in
    let d = hold n.constants (Utf8 descriptor) in
    goes_on list d.constants (hold d.constants (NameAndType n.index d.index)).constants
    (goes_on list n.constants d.constants (one_extends list (Utf8 name)) (one_extends n.constants (Utf8 descriptor)))
    (one_extends d.constants (NameAndType n.index d.index))

pub member_extends : (kind : ℕ → ℕ → Const) (list : List Const) (class name descriptor : List ℕ) → Extends list (hold_member kind list class name descriptor).constants
unfolding hold_member
member_extends kind list class name descriptor =
    let c = hold_class list class in
    let m = hold_name_and_type c.constants name descriptor in
    goes_on list m.constants (hold m.constants (kind c.index m.index)).constants
    (goes_on list c.constants m.constants (class_extends list class) (type_extends c.constants name descriptor))
    (one_extends m.constants (kind c.index m.index))

pub named_extends : (list : List Const) (wanted : Named) → Extends list (hold_named list wanted).constants
named_extends list (named_form.Int n) = one_extends list (Integer n)
named_extends list (named_form.Text bytes) = literal_extends list bytes
named_extends list (named_form.Class name) = class_extends list name
named_extends list (named_form.Field m) = member_extends Fieldref list m.class m.name m.descriptor
named_extends list (named_form.Method m) = member_extends Methodref list m.class m.name m.descriptor

pub line_extends : (list : List Const) (l : Line) → Extends list (with_line list l)
line_extends list (line_form.Plain instr) = stays list
line_extends list (line_form.Uses use_ wanted) = named_extends list wanted
line_extends list (line_form.CallsInterface m count) = member_extends InterfaceMethodref list m.class m.name m.descriptor
line_extends list (line_form.Branch jump label) = stays list
line_extends list (line_form.Mark label) = stays list

pub holding_extends : HoldingExtends
holding_extends = record {
  one = one_extends;
  class = class_extends;
  literal = literal_extends;
  name_and_type = type_extends;
  member = member_extends;
  named = named_extends;
  line = line_extends;
}

pub lines_extend : LinesExtend
lines_extend list [] = stays list
lines_extend list (l ∷ ls) = goes_on list (with_line list l) (with_lines (with_line list l) ls) (line_extends list l) (lines_extend (with_line list l) ls)

pub lines_ask : LinesAsk
lines_ask list [] second = refl
lines_ask list (l ∷ ls) second = lines_ask (with_line list l) ls second
