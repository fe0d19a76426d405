-- The constants that the file of a class asks for, each held once, in the order in which the file is made.
use Rattle.std.specs.Prelude.{ℕ, List, [], Option, Some, None, codes}
use Rattle.std.specs.List.{fold}
use Rattle.class_form.specs.declared.constant.Const.{Const}
use Rattle.class_form.specs.declared.constant.Const.TheVariants.{Utf8}
use Rattle.jp_pred.specs.Names.{Word}
use Rattle.jp_pred.specs.declared.hier.Hier.{Hier}
use Rattle.iface_codec.specs.declared.iface.Iface.{Iface}
use Rattle.iface_codec.specs.declared.iface.IfaceField.{IfaceField}
use Rattle.jp_store.specs.Classes.{object_name}
use Rattle.jp_meaning.specs.declared.unit.TypedMember.{TypedMember}
use Rattle.jp_meaning.specs.declared.unit.TypedClass.{TypedClass}
use Rattle.jp_meaning.specs.Descriptors.{internal_name, descriptor_of}
use Rattle.code_asm.specs.Held.{hold, hold_class}
use Rattle.code_asm.specs.Lines.{lines_of}
use Rattle.code_asm.specs.Written.{with_lines}
use Rattle.gen_body.specs.Members.{member_code}
use Rattle.gen_laws.specs.Compiled.{Name, name_of_part}

-- constants with a text, and with a name and its descriptor
abbrev pub with_text : List Const → List ℕ → List Const
with_text list text = (hold list (Utf8 text)).constants

abbrev pub with_name : List Const → List ℕ → List ℕ → List Const
with_name list name descriptor = with_text (with_text list name) descriptor

-- with the class of a name, with a superclass, which is Object where none is declared, and with interfaces
abbrev pub with_class : List Const → Word → List Const
with_class list name = (hold_class list (internal_name name)).constants

abbrev pub with_superclass : List Const → Option Word → List Const
with_superclass list None = (hold_class list object_name).constants
with_superclass list (Some name) = with_class list name

abbrev pub with_classes : List Const → List Word → List Const
with_classes list names = fold with_class list names

-- with what names a class and its supertypes
abbrev pub with_heading : List Const → Iface → List Const
with_heading list head = with_classes (with_superclass (with_class list head.name) head.superclass) head.interfaces

-- with what names a field, and fields
abbrev pub with_field : List Const → IfaceField → List Const
with_field list field = with_name list field.name (descriptor_of field.ty)

abbrev pub with_fields : List Const → List IfaceField → List Const
with_fields list fields = fold with_field list fields

-- with what names a member with statements, and what its code names
abbrev pub with_method : Hier → Iface → List Const → TypedMember → Option Name → List Const
with_method hier head list m None = list
with_method hier head list m (Some name) = with_lines (with_name list name.name name.descriptor) (lines_of (member_code hier head m).items)

abbrev pub with_member : Hier → Iface → List Const → TypedMember → List Const
with_member hier head list m = with_method hier head list m (name_of_part head m.part)

abbrev pub with_members : Hier → Iface → List Const → List TypedMember → List Const
with_members hier head list members = fold (with_member hier head) list members

-- the name of the attribute in which code stands, what names the class, and what names its fields
abbrev pub front_constants : Iface → List Const
front_constants head = with_fields (with_heading (with_text [] (codes "Code")) head) head.fields

-- the constants of a class, from index 1 on
abbrev pub class_constants : Hier → TypedClass → List Const
class_constants hier c = with_members hier c.head (front_constants c.head) c.members
