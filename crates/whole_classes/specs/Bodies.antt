-- What is computed: whether a class lacks a body.
use Rattle.std.specs.Prelude.{ℕ, List, [], length, map, Bool, false, not, ◌&&◌, ◌||◌, Option, None, slice_get}
use Rattle.std.specs.List.{list_any}
use Rattle.std.specs.Option.{option_map_or}
use Rattle.std.specs.Borrow.{Bor}
use Rattle.jp_pred.specs.Names.{Word, object, same}
use Rattle.jp_pred.specs.Hierarchy.{is_below}
use Rattle.iface_codec.specs.declared.iface.Iface.{Iface}
use Rattle.iface_codec.specs.declared.iface.IfaceMethod.{IfaceMethod}
use Rattle.jp_meaning.specs.declared.unit.TypedClass.{TypedClass}
use Rattle.jp_meaning.specs.declared.unit.TypedMember.{TypedMember}
use Rattle.jp_meaning.specs.declared.unit.TypedPart.{TypedPart}
use Rattle.jp_meaning.specs.declared.unit.TypedPart.TheVariants as part
use Rattle.jp_meaning.specs.Does.{Method}
use Rattle.jp_meaning.specs.Descriptors.{method_descriptor}
use Rattle.jp_meaning.specs.Classes.{is_body, is_virtual, is_named, hier_in, upwards}
use Rattle.type_rules.specs.Heads.{is_concrete}
use Rattle.type_rules.specs.Types.{is_among}

-- a list of references, as the classes that they lead to
abbrev pub typed_at : List (Bor TypedClass) → List TypedClass
typed_at classes = map (λ c. c.now) classes

-- a method of that name and descriptor, whatever its class
abbrev pub called : Word → List ℕ → Method
called name descriptor = record { class = []; name = name; descriptor = descriptor }

-- the method that a member is
abbrev pub method_at : Iface → TypedPart → Option IfaceMethod
method_at head (part.Method at) = slice_get head.methods at
method_at head (part.Field at) = None
method_at head (part.Constructor at) = None

-- whether a member is a body with that name and descriptor
abbrev pub is_body_of : Method → Iface → TypedMember → Bool
is_body_of named head member = option_map_or (λ m. is_body m.kind && is_named named m) (method_at head member.part) false

-- whether a class has one
abbrev pub gives_body : Method → TypedClass → Bool
gives_body named c = list_any (is_body_of named c.head) c.members

-- whether one of the methods is of a family of which none of the classes has a body
abbrev pub lacks_some : List TypedClass → List IfaceMethod → Bool
lacks_some line methods =
    list_any (λ m. is_virtual m.kind && not (list_any (gives_body (called m.name (method_descriptor m.params m.result))) line)) methods

-- whether the name is Object's or one of those
abbrev pub is_at_or_above : List Word → Word → Bool
is_at_or_above above name = same name object || is_among name above

-- whether a class at or above declares such a method
abbrev pub lacks_of : List Word → List TypedClass → TypedClass → Bool
lacks_of above line d = is_at_or_above above d.head.name && lacks_some line d.head.methods

-- whether a class is concrete and lacks a body for one of its families
abbrev pub lacks_body : List TypedClass → TypedClass → Bool
lacks_body classes c =
    is_concrete c.head
    && list_any (λ d. is_below (hier_in classes) c.head.name d.head.name && lacks_some (upwards (length classes) classes c.head.name) d.head.methods) classes
