-- How many constants are added at most.
use Rattle.std.proofs.Common.{◌≡◌, ℕ, ◌+◌, ◌≤◌, Bool, true, false, if◌then◌else◌, List, [], ◌∷◌, ◌++◌, length, refl, ap, arith, length-append}
use Rattle.std.specs.List.{list_any}
use Rattle.class_form.specs.declared.constant.Const.{Const}
use Rattle.class_form.specs.declared.constant.Const.TheVariants.{Unused, Utf8, Integer, Class, Text, Fieldref, Methodref, InterfaceMethodref, NameAndType}
use Rattle.class_form.specs.WellFormed.{is_wide}
use Rattle.code_asm.specs.declared.line.Named.{Named}
use Rattle.code_asm.specs.declared.line.Named.TheVariants as named_form
use Rattle.code_asm.specs.declared.line.Line.{Line}
use Rattle.code_asm.specs.declared.line.Line.TheVariants as line_form
use Rattle.code_asm.specs.Held.{is_same, with_rest, hold, hold_class, hold_text, hold_name_and_type, hold_member}
use Rattle.code_asm.specs.Written.{hold_named, with_line}
use Rattle.pool_laws.specs.Growth.{LinesAddFew, HoldingAddsFew}

grown : (b : Bool) (list more : List Const) → length (if b then list else list ++ more) ≤ length list + length more
grown true list more = omega arith
grown false list more = let e = length-append list more in omega (arith, e)

pub one_adds : (list : List Const) (c : Const) → is_wide c ≡ false → length (hold list c).constants ≤ length list + 1
unfolding hold
one_adds list c narrow =
    let few = grown (list_any (is_same c) list) list (with_rest c) in
    let single : length (with_rest c) ≡ 1 = ap (λ b. length (if b then c ∷ Unused ∷ [] else c ∷ [])) narrow in
    omega (arith, few, single)

pub class_adds : (list : List Const) (name : List ℕ) → length (hold_class list name).constants ≤ length list + 2
unfolding hold_class
class_adds list name =
    let t = hold list (Utf8 name) in
    let a = one_adds list (Utf8 name) refl in
    let b = one_adds t.constants (Class t.index) refl in
    omega (arith, a, b)

pub literal_adds : (list : List Const) (bytes : List ℕ) → length (hold_text list bytes).constants ≤ length list + 2
unfolding hold_text
literal_adds list bytes =
    let t = hold list (Utf8 bytes) in
    let a = one_adds list (Utf8 bytes) refl in
    let b = one_adds t.constants (Text t.index) refl in
    omega (arith, a, b)

pub type_adds : (list : List Const) (name descriptor : List ℕ) → length (hold_name_and_type list name descriptor).constants ≤ length list + 3
unfolding hold_name_and_type
type_adds list name descriptor =
    let n = hold list (Utf8 name) in
    let d = hold n.constants (Utf8 descriptor) in
    let a = one_adds list (Utf8 name) refl in
    let b = one_adds n.constants (Utf8 descriptor) refl in
    let c = one_adds d.constants (NameAndType n.index d.index) refl in
    omega (arith, a, b, c)

module _ (kind : ℕ → ℕ → Const) (narrow : (class name : ℕ) → is_wide (kind class name) ≡ false) where
  pub member_adds : (list : List Const) (class name descriptor : List ℕ) → length (hold_member kind list class name descriptor).constants ≤ length list + 6
  unfolding hold_member
  member_adds list class name descriptor =
      let c = hold_class list class in
      let m = hold_name_and_type c.constants name descriptor in
      let a = class_adds list class in
      let b = type_adds c.constants name descriptor in
      let d = one_adds m.constants (kind c.index m.index) (narrow c.index m.index) in
      omega (arith, a, b, d)

pub field_adds : (list : List Const) (class name descriptor : List ℕ) → length (hold_member Fieldref list class name descriptor).constants ≤ length list + 6
field_adds = member_adds Fieldref (λ class name. refl)

pub method_adds : (list : List Const) (class name descriptor : List ℕ) → length (hold_member Methodref list class name descriptor).constants ≤ length list + 6
method_adds = member_adds Methodref (λ class name. refl)

pub interface_method_adds : (list : List Const) (class name descriptor : List ℕ) → length (hold_member InterfaceMethodref list class name descriptor).constants ≤ length list + 6
interface_method_adds = member_adds InterfaceMethodref (λ class name. refl)

pub named_adds : (list : List Const) (wanted : Named) → length (hold_named list wanted).constants ≤ length list + 6
named_adds list (named_form.Int n) = let a = one_adds list (Integer n) refl in omega (arith, a)
named_adds list (named_form.Text bytes) = let a = literal_adds list bytes in omega (arith, a)
named_adds list (named_form.Class name) = let a = class_adds list name in omega (arith, a)
named_adds list (named_form.Field m) = field_adds list m.class m.name m.descriptor
named_adds list (named_form.Method m) = method_adds list m.class m.name m.descriptor

pub line_adds : (list : List Const) (l : Line) → length (with_line list l) ≤ length list + 6
line_adds list (line_form.Plain instr) = omega arith
line_adds list (line_form.Uses use_ wanted) = named_adds list wanted
line_adds list (line_form.CallsInterface m count) = interface_method_adds list m.class m.name m.descriptor
line_adds list (line_form.Branch jump label) = omega arith
line_adds list (line_form.Mark label) = omega arith

pub holding_adds : HoldingAddsFew
holding_adds = record {
  one = one_adds;
  text = λ list text. one_adds list (Utf8 text) refl;
  class = class_adds;
  literal = literal_adds;
  name_and_type = type_adds;
  field = field_adds;
  method = method_adds;
  interface_method = interface_method_adds;
  named = named_adds;
  line = line_adds;
}

pub lines_add : LinesAddFew
lines_add list [] = omega arith
lines_add list (l ∷ ls) =
    let a = line_adds list l in
    let b = lines_add (with_line list l) ls in
    omega (arith, a, b)
