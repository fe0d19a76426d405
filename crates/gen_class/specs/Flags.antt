-- Access flags (JVM specification, second edition, 4.1, 4.5 and 4.6).
use Rattle.std.specs.Prelude.{◌≡◌, ℕ, Bool, bit_or, if◌then◌else◌, map, slice_get, Option, Some, None, option_and_then}
use Rattle.std.specs.List.{filter_map}
use Rattle.std.specs.Option.{option_map}
use Rattle.class_form.specs.declared.class_file.ClassFile.{ClassFile}
use Rattle.iface_codec.specs.declared.iface.Iface.{Iface}
use Rattle.iface_codec.specs.declared.iface.IfaceField.{IfaceField}
use Rattle.iface_codec.specs.declared.iface.MethodKind.{MethodKind}
use Rattle.iface_codec.specs.declared.iface.MethodKind.TheVariants as kind
use Rattle.jp_meaning.specs.declared.unit.TypedPart.{TypedPart}
use Rattle.jp_meaning.specs.declared.unit.TypedPart.TheVariants as part
use Rattle.jp_meaning.specs.declared.unit.TypedClass.{TypedClass}

-- a flag, where it is set
abbrev pub flag_if : Bool → ℕ → ℕ
flag_if is_set flag = if is_set then flag else 0

-- an interface is public, an interface and abstract; a class is public, calls its superclass's methods as the standard asks,
-- and is final and abstract as declared
abbrev pub class_flags : Iface → ℕ
class_flags head = if head.is_interface then 0x0601 else bit_or (bit_or 0x0021 (flag_if head.is_final 0x0010)) (flag_if head.is_abstract 0x0400)

-- a member is private or public, and static or not
abbrev pub member_flags : Bool → Bool → ℕ
member_flags is_private is_static = bit_or (if is_private then 0x0002 else 0x0001) (flag_if is_static 0x0008)

abbrev pub field_flags : IfaceField → ℕ
field_flags field = member_flags field.is_private field.is_static

-- the flags of a method with statements: public; public and static; private and static
abbrev pub flags_of_kind : MethodKind → Option ℕ
flags_of_kind kind.Abstract = None
flags_of_kind kind.Body = Some 0x0001
flags_of_kind kind.Static = Some 0x0009
flags_of_kind kind.PrivateStatic = Some 0x000a

-- the flags of the method of a member with statements; a constructor is public
abbrev pub flags_of_part : Iface → TypedPart → Option ℕ
flags_of_part head (part.Field at) = None
flags_of_part head (part.Method at) = option_and_then (λ m. flags_of_kind m.kind) (slice_get head.methods at)
flags_of_part head (part.Constructor at) = option_map (λ params. 0x0001) (slice_get head.constructors at)

-- the flags of a file are those of its class, of the class's fields, and of the members with statements
pub record HasFlags (c : TypedClass) (file : ClassFile) : Type 0 where
  pub class : file.flags ≡ class_flags c.head
  pub fields : map (λ field. field.flags) file.fields ≡ map field_flags c.head.fields
  pub methods : map (λ method. method.flags) file.methods ≡ filter_map (λ m. flags_of_part c.head m.part) c.members
