-- How many constants a class asks for at most.
use Rattle.std.proofs.Common.{ℕ, ◌+◌, ◌*◌, ◌≤◌, List, [], ◌∷◌, length, Option, Some, None, refl, arith}
use Rattle.std.specs.Prelude.{codes}
use Rattle.std.specs.List.{sum_by}
use Rattle.std.proofs.lemmas.List.{length-map}
use Rattle.std.proofs.lemmas.List.Sums.{sum_by-cons}
use Rattle.class_form.specs.declared.constant.Const.{Const}
use Rattle.class_form.specs.declared.constant.Const.TheVariants.{Utf8}
use Rattle.jp_pred.specs.declared.hier.Hier.{Hier}
use Rattle.jp_pred.specs.Names.{Word}
use Rattle.iface_codec.specs.declared.iface.Iface.{Iface}
use Rattle.iface_codec.specs.declared.iface.IfaceField.{IfaceField}
use Rattle.jp_store.specs.Classes.{object_name}
use Rattle.jp_meaning.specs.declared.unit.TypedMember.{TypedMember}
use Rattle.jp_meaning.specs.Descriptors.{internal_name, descriptor_of}
use Rattle.code_asm.specs.Lines.{line_of, lines_of}
use Rattle.gen_body.specs.Members.{member_code}
use Rattle.gen_laws.specs.Compiled.{Name, name_of_part}
use Rattle.pool_laws.proofs.Adding as pool
use Rattle.gen_class.specs.Asked.{with_text, with_name, with_class, with_superclass, with_classes, with_heading, with_field, with_fields, with_method, with_member, with_members, front_constants}
use Rattle.class_forms.specs.Laws.{SmallClassAsksFew}

name_adds : (list : List Const) (name descriptor : List ℕ) → length (with_name list name descriptor) ≤ length list + 2
name_adds list name descriptor =
    let a = pool.one_adds list (Utf8 name) refl in
    let b = pool.one_adds (with_text list name) (Utf8 descriptor) refl in
    omega (arith, a, b)

class_adds : (list : List Const) (name : Word) → length (with_class list name) ≤ length list + 2
class_adds list name = pool.class_adds list (internal_name name)

superclass_adds : (list : List Const) (o : Option Word) → length (with_superclass list o) ≤ length list + 2
superclass_adds list None = pool.class_adds list object_name
superclass_adds list (Some name) = class_adds list name

classes_add : (names : List Word) (list : List Const) → length (with_classes list names) ≤ length list + 2 * length names
classes_add [] list = omega arith
classes_add (name ∷ names) list =
    let a = class_adds list name in
    let b = classes_add names (with_class list name) in
    omega (arith, a, b)

heading_adds : (list : List Const) (head : Iface) → length (with_heading list head) ≤ length list + (4 + 2 * length head.interfaces)
heading_adds list head =
    let named = with_class list head.name in
    let a = class_adds list head.name in
    let b = superclass_adds named head.superclass in
    let c = classes_add head.interfaces (with_superclass named head.superclass) in
    omega (arith, a, b, c)

fields_add : (fields : List IfaceField) (list : List Const) → length (with_fields list fields) ≤ length list + 2 * length fields
fields_add [] list = omega arith
fields_add (field ∷ fields) list =
    let a = name_adds list field.name (descriptor_of field.ty) in
    let b = fields_add fields (with_field list field) in
    omega (arith, a, b)

front_adds : (head : Iface) → length (front_constants head) ≤ 5 + 2 * length head.interfaces + 2 * length head.fields
front_adds head =
    let text = with_text [] (codes "Code") in
    let a = pool.one_adds [] (Utf8 (codes "Code")) refl in
    let b = heading_adds text head in
    let c = fields_add head.fields (with_heading text head) in
    omega (arith, a, b, c)

module _ (hier : Hier) (head : Iface) where
  abbrev items_of : TypedMember → ℕ
  items_of m = length (member_code hier head m).items

  method_adds : (list : List Const) (m : TypedMember) (o : Option Name) → length (with_method hier head list m o) ≤ length list + (6 * items_of m + 2)
  method_adds list m None = omega arith
  method_adds list m (Some name) =
      let items = (member_code hier head m).items in
      let a = name_adds list name.name name.descriptor in
      let b = pool.lines_add (with_name list name.name name.descriptor) (lines_of items) in
      let e = length-map items line_of in
      omega (arith, a, b, e)

  members_add : (members : List TypedMember) (list : List Const) → length (with_members hier head list members) ≤ length list + (6 * sum_by items_of members + 2 * length members)
  members_add [] list = omega arith
  members_add (m ∷ members) list =
      let a = method_adds list m (name_of_part head m.part) in
      let b = members_add members (with_member hier head list m) in
      let e = sum_by-cons items_of m members in
      omega (arith, a, b, e)

pub class_asks_few : SmallClassAsksFew
class_asks_few hier c le =
    let a = front_adds c.head in
    let b = members_add hier c.head c.members (front_constants c.head) in
    omega (arith, a, b, le)
