-- Where named members stand among resolved classes.
use Rattle.std.specs.Prelude.{ℕ, zero, suc, List, [], ◌∷◌, map, length, Bool, true, false, ◌&&◌, ◌||◌, Option, Some, None, option_and_then, slice_get, cond, if◌then◌else◌}
use Rattle.std.specs.List.{flat_map, filter_map, list_any}
use Rattle.std.specs.Option.{option_map, option_map_or}
use Rattle.std.specs.Str.{bytes_eq}
use Rattle.jp_pred.specs.declared.ty.Ty.TheVariants as ty
use Rattle.jp_pred.specs.declared.hier.Hier.{Hier}
use Rattle.jp_pred.specs.Names.{Word, same}
use Rattle.jp_pred.specs.Hierarchy.{is_below}
use Rattle.iface_codec.specs.declared.iface.Iface.{Iface}
use Rattle.iface_codec.specs.declared.iface.IfaceField.{IfaceField}
use Rattle.iface_codec.specs.declared.iface.IfaceMethod.{IfaceMethod}
use Rattle.iface_codec.specs.declared.iface.MethodKind.{MethodKind}
use Rattle.iface_codec.specs.declared.iface.MethodKind.TheVariants as kind
use Rattle.iface_codec.specs.Hierarchy.{hier_of}
use Rattle.jp_store.specs.Classes.{Class, Field, object_name}
use Rattle.jp_meaning.specs.declared.unit.TypedPart.{TypedPart}
use Rattle.jp_meaning.specs.declared.unit.TypedPart.TheVariants as part
use Rattle.jp_meaning.specs.declared.unit.TypedMember.{TypedMember}
use Rattle.jp_meaning.specs.declared.unit.TypedClass.{TypedClass}
use Rattle.jp_meaning.specs.Does.{Method}
use Rattle.jp_meaning.specs.Descriptors.{internal_name, word_of, descriptor_of, method_descriptor}

-- a field as the store names it
abbrev pub field_of_head : IfaceField → Field
field_of_head f = record { name = f.name; descriptor = descriptor_of f.ty; is_static = f.is_static }

-- A class as the store names it. An interface is abstract and has the superclass Object there (JVM specification, second
-- edition, 4.1)
abbrev pub class_of_head : Iface → Class
class_of_head head = record {
  name = internal_name head.name;
  superclass = Some (option_map_or internal_name head.superclass object_name);
  interfaces = map internal_name head.interfaces;
  is_interface = head.is_interface;
  is_abstract = head.is_abstract || head.is_interface;
  fields = map field_of_head head.fields;
}

-- the hierarchy of these classes
abbrev pub hier_in : List TypedClass → Hier
hier_in classes = hier_of (map (λ c. c.head) classes)

-- the first class of that name
abbrev pub class_in : List TypedClass → Word → Option TypedClass
class_in [] name = None
class_in (c ∷ cs) name = cond (same c.head.name name) (Some c) (class_in cs name)

-- a member with the head of its class
pub record Placed : Type 0 where
  pub head : Iface
  pub member : TypedMember

-- a method with the head of its class and its own
pub record Candidate : Type 0 where
  pub head : Iface
  pub member : TypedMember
  pub method : IfaceMethod

abbrev pub is_body : MethodKind → Bool
is_body kind.Body = true
is_body kind.Abstract = false
is_body kind.Static = false
is_body kind.PrivateStatic = false

abbrev pub is_static : MethodKind → Bool
is_static kind.Static = true
is_static kind.PrivateStatic = true
is_static kind.Abstract = false
is_static kind.Body = false

-- a method that is selected among the bodies of its family
abbrev pub is_virtual : MethodKind → Bool
is_virtual kind.Body = true
is_virtual kind.Abstract = true
is_virtual kind.Static = false
is_virtual kind.PrivateStatic = false

-- whether a method has the name and the descriptor
abbrev pub is_named : Method → IfaceMethod → Bool
is_named named m = bytes_eq m.name named.name && bytes_eq (method_descriptor m.params m.result) named.descriptor

-- whether a class declares a method of a family
abbrev pub declares : Method → TypedClass → Bool
declares named c = list_any (λ m. is_virtual m.kind && is_named named m) c.head.methods

-- whether the named class, or one that it is below, declares a method of the family
abbrev pub has_family : List TypedClass → Method → Bool
has_family classes named = list_any (λ c. is_below (hier_in classes) (word_of named.class) c.head.name && declares named c) classes

-- a member that is a method
abbrev pub as_method : Iface → TypedMember → TypedPart → Option Candidate
as_method head m (part.Method at) = option_map (λ method. record { head = head; member = m; method = method }) (slice_get head.methods at)
as_method head m (part.Field at) = None
as_method head m (part.Constructor at) = None

-- a member that is a method of such a kind, with the name and the descriptor
abbrev pub as_named : (MethodKind → Bool) → Method → Iface → TypedMember → Option Candidate
as_named of_kind named head m =
    option_and_then (λ c. if of_kind c.method.kind && is_named named c.method then Some c else None) (as_method head m m.part)

-- the methods of a class of such a kind with the name and the descriptor, in source order
abbrev pub methods_in : (MethodKind → Bool) → Method → TypedClass → List Candidate
methods_in of_kind named c = filter_map (as_named of_kind named c.head) c.members

-- a member that is a constructor with the descriptor
abbrev pub as_constructor : Method → Iface → TypedMember → TypedPart → Option Placed
as_constructor named head m (part.Constructor at) =
    option_and_then (λ params. if bytes_eq (method_descriptor params ty.Void) named.descriptor then Some (record { head = head; member = m }) else None)
    (slice_get head.constructors at)
as_constructor named head m (part.Field at) = None
as_constructor named head m (part.Method at) = None

-- the constructor that is named
abbrev pub constructor_named : List TypedClass → Method → Option Placed
constructor_named classes named =
    option_and_then (λ c. slice_get (filter_map (λ m. as_constructor named c.head m m.part) c.members) 0) (class_in classes (word_of named.class))

-- a method without its head
abbrev pub placed : Candidate → Placed
placed c = record { head = c.head; member = c.member }

-- the static method that is named
abbrev pub static_named : List TypedClass → Method → Option Placed
static_named classes named =
    option_and_then (λ c. option_map placed (slice_get (methods_in is_static named c) 0)) (class_in classes (word_of named.class))

-- a class and its superclasses upwards, at most n
abbrev pub upwards : ℕ → List TypedClass → Word → List TypedClass
upwards zero classes name = []
upwards (suc n) classes name =
    option_map_or (λ c. c ∷ option_map_or (upwards n classes) c.head.superclass []) (class_in classes name) []

-- The chain of a class: the bodies of a family in source order, those of the class, then those of its superclass, and so
-- on upwards
abbrev pub chain_of : List TypedClass → Method → Word → List Candidate
chain_of classes named name = flat_map (methods_in is_body named) (upwards (length classes) classes name)
