-- What is asked for is added behind the constants that there are, so that they become no fewer.
use Rattle.std.proofs.Common.{◌≡◌, ℕ, ◌+◌, ◌<◌, ◌≤◌, Bool, true, false, if◌then◌else◌, List, [], ◌∷◌, ◌++◌, length, take, drop, get_or, Option, Some, None, sym, ap, ◌∙◌, arith, length-append}
use Rattle.std.specs.List.{list_any, fold}
use Rattle.std.proofs.lemmas.List.{take-append-drop}
use Rattle.std.proofs.lemmas.List.Sums.{fold-append, fold_more}
use Rattle.class_form.specs.declared.constant.Const.{Const}
use Rattle.class_form.specs.declared.constant.Const.TheVariants.{Utf8, Integer, Class, Text, Fieldref, Methodref, InterfaceMethodref, NameAndType}
use Rattle.jp_pred.specs.Names.{Word}
use Rattle.jp_pred.specs.declared.hier.Hier.{Hier}
use Rattle.iface_codec.specs.declared.iface.Iface.{Iface}
use Rattle.iface_codec.specs.declared.iface.IfaceField.{IfaceField}
use Rattle.jp_store.specs.Classes.{object_name}
use Rattle.jp_meaning.specs.declared.unit.TypedMember.{TypedMember}
use Rattle.jp_meaning.specs.Descriptors.{internal_name, descriptor_of}
use Rattle.code_asm.specs.declared.fault.AsmFault.{AsmFault}
use Rattle.code_asm.specs.declared.fault.AsmFault.TheVariants.{Full, TooLong, FarJump, OutOfMemory}
use Rattle.code_asm.specs.declared.line.Named.{Named}
use Rattle.code_asm.specs.declared.line.Named.TheVariants as named
use Rattle.code_asm.specs.declared.line.Line.{Line}
use Rattle.code_asm.specs.declared.line.Line.TheVariants as line
use Rattle.code_asm.specs.Held.{is_same, with_rest, hold, hold_class, hold_text, hold_name_and_type, hold_member, Fails}
use Rattle.code_asm.specs.Lines.{lines_of}
use Rattle.code_asm.specs.Written.{hold_named, with_line, with_lines}
use Rattle.gen_body.specs.Members.{member_code}
use Rattle.gen_laws.specs.Compiled.{Name, name_of_part}
use Rattle.gen_class.specs.Asked.{with_text, with_name, with_class, with_superclass, with_classes, with_heading, with_field, with_fields, with_method, with_member, with_members}

-- WHAT IS HELD

if_longer : {X : Type 0} (b : Bool) (xs more : List X) → length xs ≤ length (if b then xs else xs ++ more)
if_longer true xs more = omega arith
if_longer false xs more = let e = length-append xs more in omega (arith, e)

hold_grows : (list : List Const) (c : Const) → length list ≤ length (hold list c).constants
unfolding hold
hold_grows list c = if_longer (list_any (is_same c) list) list (with_rest c)

class_grows : (list : List Const) (name : List ℕ) → length list ≤ length (hold_class list name).constants
unfolding hold_class
class_grows list name = let text = hold list (Utf8 name) in omega (arith, hold_grows list (Utf8 name), hold_grows text.constants (Class text.index))

literal_grows : (list : List Const) (bytes : List ℕ) → length list ≤ length (hold_text list bytes).constants
unfolding hold_text
literal_grows list bytes = let text = hold list (Utf8 bytes) in omega (arith, hold_grows list (Utf8 bytes), hold_grows text.constants (Text text.index))

type_grows : (list : List Const) (name descriptor : List ℕ) → length list ≤ length (hold_name_and_type list name descriptor).constants
unfolding hold_name_and_type
type_grows list name descriptor =
    let n = hold list (Utf8 name) in let d = hold n.constants (Utf8 descriptor) in
    omega (arith, hold_grows list (Utf8 name), hold_grows n.constants (Utf8 descriptor), hold_grows d.constants (NameAndType n.index d.index))

member_held_grows : (kind : ℕ → ℕ → Const) (list : List Const) (class name descriptor : List ℕ) → length list ≤ length (hold_member kind list class name descriptor).constants
unfolding hold_member
member_held_grows kind list class name descriptor =
    let c = hold_class list class in let m = hold_name_and_type c.constants name descriptor in
    omega (arith, class_grows list class, type_grows c.constants name descriptor, hold_grows m.constants (kind c.index m.index))

named_grows : (list : List Const) (n : Named) → length list ≤ length (hold_named list n).constants
named_grows list (named.Int n) = hold_grows list (Integer n)
named_grows list (named.Text bytes) = literal_grows list bytes
named_grows list (named.Class name) = class_grows list name
named_grows list (named.Field m) = member_held_grows Fieldref list m.class m.name m.descriptor
named_grows list (named.Method m) = member_held_grows Methodref list m.class m.name m.descriptor

line_grows : (list : List Const) (l : Line) → length list ≤ length (with_line list l)
line_grows list (line.Plain instr) = omega arith
line_grows list (line.Uses use_ wanted) = named_grows list wanted
line_grows list (line.CallsInterface m count) = member_held_grows InterfaceMethodref list m.class m.name m.descriptor
line_grows list (line.Branch jump label) = omega arith
line_grows list (line.Mark label) = omega arith

lines_grow : (list : List Const) (lines : List Line) → length list ≤ length (with_lines list lines)
lines_grow list [] = omega arith
lines_grow list (l ∷ lines) = omega (arith, line_grows list l, lines_grow (with_line list l) lines)

-- WHAT A CLASS ASKS FOR

module _ {A : Type 0} (more : List Const → A → List Const) (grows : (list : List Const) (x : A) → length list ≤ length (more list x)) where
  fold_grows : (list : List Const) (xs : List A) → length list ≤ length (fold more list xs)
  fold_grows list [] = omega arith
  fold_grows list (x ∷ xs) = omega (arith, grows list x, fold_grows (more list x) xs)

  -- what one asks for behind those in front of it is not more than what all ask for
  pub part_grows : (list : List Const) (xs : List A) (i : ℕ) (x : A) → i < length xs → x ≡ get_or xs i x → length (more (fold more list (take i xs)) x) ≤ length (fold more list xs)
  part_grows list xs i x lt is =
      let here : fold more list (take (i + 1) xs) ≡ more (fold more list (take i xs)) x = fold_more more list xs i x lt ∙ ap (λ (y : A). more (fold more list (take i xs)) y) (sym is) in
      let whole : fold more list xs ≡ fold more (fold more list (take (i + 1) xs)) (drop (i + 1) xs) =
      ap (λ (ys : List A). fold more list ys) (sym (take-append-drop (i + 1) xs)) ∙ fold-append more list (take (i + 1) xs) (drop (i + 1) xs) in
      omega (arith, ap length here, ap length whole, fold_grows (fold more list (take (i + 1) xs)) (drop (i + 1) xs))

text_grows : (list : List Const) (text : List ℕ) → length list ≤ length (with_text list text)
text_grows list text = hold_grows list (Utf8 text)

pub name_grows : (list : List Const) (name descriptor : List ℕ) → length (with_text list name) ≤ length (with_name list name descriptor)
name_grows list name descriptor = text_grows (with_text list name) descriptor

pub one_class_grows : (list : List Const) (name : Word) → length list ≤ length (with_class list name)
one_class_grows list name = class_grows list (internal_name name)

superclass_grows : (list : List Const) (name : Option Word) → length list ≤ length (with_superclass list name)
superclass_grows list None = class_grows list object_name
superclass_grows list (Some name) = one_class_grows list name

pub field_grows : (list : List Const) (field : IfaceField) → length list ≤ length (with_field list field)
field_grows list field = omega (arith, text_grows list field.name, text_grows (with_text list field.name) (descriptor_of field.ty))

pub classes_grow : (list : List Const) (names : List Word) → length list ≤ length (with_classes list names)
classes_grow list names = fold_grows with_class one_class_grows list names

fields_grow : (list : List Const) (fields : List IfaceField) → length list ≤ length (with_fields list fields)
fields_grow list fields = fold_grows with_field field_grows list fields

-- the class's own name and the superclass are no more than the heading
pub first_of_heading : (list : List Const) (head : Iface) → length (with_class list head.name) ≤ length (with_heading list head)
first_of_heading list head =
    let own = with_class list head.name in omega (arith, superclass_grows own head.superclass, classes_grow (with_superclass own head.superclass) head.interfaces)

pub front_of_heading : (list : List Const) (head : Iface) → length (with_superclass (with_class list head.name) head.superclass) ≤ length (with_heading list head)
front_of_heading list head = classes_grow (with_superclass (with_class list head.name) head.superclass) head.interfaces

module _ (hier : Hier) (head : Iface) where
  -- a member's name, and its name and descriptor, are no more than what the member asks for
  pub first_of_member : (list : List Const) (m : TypedMember) (name : Name) → name_of_part head m.part ≡ Some name → length (with_text list name.name) ≤ length (with_member hier head list m)
  first_of_member list m name e =
      let is : with_member hier head list m ≡ with_method hier head list m (Some name) = ap (λ (o : Option Name). with_method hier head list m o) e in
      let both = with_name list name.name name.descriptor in
      omega (arith, ap length is, name_grows list name.name name.descriptor, lines_grow both (lines_of (member_code hier head m).items))

  pub front_of_member : (list : List Const) (m : TypedMember) (name : Name) → name_of_part head m.part ≡ Some name → length (with_name list name.name name.descriptor) ≤ length (with_member hier head list m)
  front_of_member list m name e =
      let is : with_member hier head list m ≡ with_method hier head list m (Some name) = ap (λ (o : Option Name). with_method hier head list m o) e in
      let both = with_name list name.name name.descriptor in
      omega (arith, ap length is, lines_grow both (lines_of (member_code hier head m).items))

  pub member_grows : (list : List Const) (m : TypedMember) → length list ≤ length (with_member hier head list m)
  member_grows list m = by_name (name_of_part head m.part) where
    by_name : (o : Option Name) → length list ≤ length (with_method hier head list m o)
    by_name None = omega arith
    by_name (Some name) =
        let both = with_name list name.name name.descriptor in
        omega (arith, text_grows list name.name, name_grows list name.name name.descriptor, lines_grow both (lines_of (member_code hier head m).items))

  members_grow : (list : List Const) (ms : List TypedMember) → length list ≤ length (with_members hier head list ms)
  members_grow list ms = fold_grows (with_member hier head) member_grows list ms

  -- the heading, and the fields behind it, are no more than all
  pub first_of_class : (list : List Const) (ms : List TypedMember) → length (with_heading list head) ≤ length (with_members hier head (with_fields (with_heading list head) head.fields) ms)
  first_of_class list ms =
      let front = with_heading list head in omega (arith, fields_grow front head.fields, members_grow (with_fields front head.fields) ms)

  pub front_of_class : (list : List Const) (ms : List TypedMember) → length list ≤ length (with_members hier head list ms)
  front_of_class list ms = members_grow list ms

-- what can't be had can't be had with more
pub fails_more : (fault : AsmFault) (a b : List Const) → length a ≤ length b → Fails fault a → Fails fault b
fails_more Full a b le h = omega (arith, le, h)
fails_more OutOfMemory a b le h = tt
fails_more (TooLong n) a b le h = h
fails_more (FarJump n) a b le h = h
