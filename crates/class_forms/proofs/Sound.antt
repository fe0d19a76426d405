-- A class's constants are sound.
use Rattle.std.proofs.Common.{ℕ, List, [], ◌∷◌, Option, Some, None}
use Rattle.std.specs.Prelude.{codes}
use Rattle.std.specs.List.{fold}
use Rattle.class_form.specs.declared.constant.Const.{Const}
use Rattle.jp_pred.specs.declared.hier.Hier.{Hier}
use Rattle.jp_pred.specs.Names.{Word}
use Rattle.iface_codec.specs.declared.iface.Iface.{Iface}
use Rattle.iface_codec.specs.declared.iface.IfaceField.{IfaceField}
use Rattle.jp_store.specs.Classes.{object_name}
use Rattle.jp_meaning.specs.declared.unit.TypedMember.{TypedMember}
use Rattle.jp_meaning.specs.Descriptors.{internal_name, descriptor_of}
use Rattle.code_asm.specs.Lines.{lines_of}
use Rattle.gen_body.specs.Members.{member_code}
use Rattle.gen_laws.specs.Compiled.{Name, name_of_part}
use Rattle.pool_laws.specs.Sound.{IsSound}
use Rattle.pool_laws.proofs.Soundness as pool
use Rattle.gen_class.specs.Asked.{with_text, with_name, with_class, with_superclass, with_heading, with_field, with_method, with_member, front_constants}
use Rattle.class_forms.specs.Laws.{ClassConstantsAreSound}

-- what each step keeps stays over all steps
module _ {A : Type 0} (more : List Const → A → List Const) (keeps : (list : List Const) (x : A) → IsSound list → IsSound (more list x)) where
  all_keep : (xs : List A) (list : List Const) → IsSound list → IsSound (fold more list xs)
  all_keep [] list h = h
  all_keep (x ∷ xs) list h = all_keep xs (more list x) (keeps list x h)

name_sound : (list : List Const) (name descriptor : List ℕ) → IsSound list → IsSound (with_name list name descriptor)
name_sound list name descriptor h = pool.text_sound (with_text list name) descriptor (pool.text_sound list name h)

named_class_sound : (list : List Const) (name : Word) → IsSound list → IsSound (with_class list name)
named_class_sound list name h = pool.class_sound list (internal_name name) h

superclass_sound : (list : List Const) (o : Option Word) → IsSound list → IsSound (with_superclass list o)
superclass_sound list None h = pool.class_sound list object_name h
superclass_sound list (Some name) h = named_class_sound list name h

heading_sound : (list : List Const) (head : Iface) → IsSound list → IsSound (with_heading list head)
heading_sound list head h =
    let named = with_class list head.name in
    all_keep with_class named_class_sound head.interfaces (with_superclass named head.superclass) (superclass_sound named head.superclass (named_class_sound list head.name h))

field_sound : (list : List Const) (field : IfaceField) → IsSound list → IsSound (with_field list field)
field_sound list field h = name_sound list field.name (descriptor_of field.ty) h

front_sound : (head : Iface) → IsSound (front_constants head)
front_sound head =
    let text = with_text [] (codes "Code") in
    all_keep with_field field_sound head.fields (with_heading text head) (heading_sound text head (pool.text_sound [] (codes "Code") pool.lines_keep.none))

module _ (hier : Hier) (head : Iface) where
  method_sound : (list : List Const) (m : TypedMember) (o : Option Name) → IsSound list → IsSound (with_method hier head list m o)
  method_sound list m None h = h
  method_sound list m (Some name) h =
      pool.lines_sound (with_name list name.name name.descriptor) (lines_of (member_code hier head m).items) (name_sound list name.name name.descriptor h)

  member_sound : (list : List Const) (m : TypedMember) → IsSound list → IsSound (with_member hier head list m)
  member_sound list m h = method_sound list m (name_of_part head m.part) h

pub class_sound : ClassConstantsAreSound
class_sound hier c = all_keep (with_member hier c.head) (member_sound hier c.head) c.members (front_constants c.head) (front_sound c.head)
