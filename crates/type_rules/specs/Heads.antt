-- The heads of classes: those of the language itself, and those of the declarations of a unit.
use Rattle.std.specs.Prelude.{List, [], ◌∷◌, ◌++◌, map, Bool, true, false, not, ◌&&◌, ◌||◌, Option, Some, None, codes, cond}
use Rattle.std.specs.List.{find, filter_map}
use Rattle.std.specs.Option.{unwrap_or, option_map_or}
use Rattle.jp_pred.specs.declared.ty.Ty.{Ty}
use Rattle.jp_pred.specs.declared.ty.Ty.TheVariants as ty
use Rattle.jp_pred.specs.declared.path.Path.{Path}
use Rattle.jp_pred.specs.declared.guard.Guard.TheVariants as guard
use Rattle.jp_pred.specs.Names.{Word, object, same}
use Rattle.jp_pred.specs.Hierarchy.{is_below}
use Rattle.iface_codec.specs.declared.iface.Iface.{Iface}
use Rattle.iface_codec.specs.declared.iface.IfaceField.{IfaceField}
use Rattle.iface_codec.specs.declared.iface.IfaceMethod.{IfaceMethod}
use Rattle.iface_codec.specs.declared.iface.MethodKind.{MethodKind}
use Rattle.iface_codec.specs.declared.iface.MethodKind.TheVariants as kind
use Rattle.iface_codec.specs.Hierarchy.{hier_of}
use Rattle.jp_ast.specs.declared.decl.Decl.{Decl}
use Rattle.jp_ast.specs.declared.decl.Member.{Member}
use Rattle.jp_ast.specs.declared.decl.MemberPart.{MemberPart}
use Rattle.jp_ast.specs.declared.decl.MemberPart.TheVariants as part
use Rattle.type_rules.specs.Types.{io}

-- OF THE LANGUAGE

-- `class Object { }`
abbrev pub object_head : Iface
object_head = record {
  name = object;
  is_abstract = false;
  is_final = false;
  is_interface = false;
  superclass = None;
  interfaces = [];
  fields = [];
  constructors = [] ∷ [];
  methods = [];
}

-- a method without a guard
abbrev pub method : Word → MethodKind → List Ty → Ty → List (Path × Ty) → IfaceMethod
method name kind params result aliases =
    record { name = name; kind = kind; params = params; result = result; guard = guard.True; aliases = aliases }

-- `final class Io { static void print(int n) .. static int read() .. }`, and `text`, whose argument is no value
abbrev pub io_head : Iface
io_head = record {
  name = io;
  is_abstract = false;
  is_final = true;
  is_interface = false;
  superclass = Some object;
  interfaces = [];
  fields = [];
  constructors = [];
  methods = method (codes "print") kind.Static (ty.Int ∷ []) ty.Void [] ∷ method (codes "text") kind.Static (ty.Void ∷ []) ty.Void []
      ∷ method (codes "read") kind.Static [] ty.Int [] ∷ [];
}

abbrev pub own_heads : List Iface
own_heads = object_head ∷ io_head ∷ []

-- OF DECLARATIONS

abbrev pub field_part : Member → MemberPart → Option IfaceField
field_part m (part.Field t static) = Some (record { name = m.name; ty = t; is_private = m.is_private; is_static = static })
field_part m _ = None

-- a member that is a field
abbrev pub as_field : Member → Option IfaceField
as_field m = field_part m m.part

abbrev pub param_types : Member → List Ty
param_types m = map (λ p. p.ty) m.params

abbrev pub constructor_part : Member → MemberPart → Option (List Ty)
constructor_part m (part.Constructor args block) = Some (param_types m)
constructor_part m _ = None

-- the types of the parameters of a member that is a constructor
abbrev pub as_constructor : Member → Option (List Ty)
as_constructor m = constructor_part m m.part

abbrev pub static_kind : Bool → MethodKind
static_kind true = kind.PrivateStatic
static_kind false = kind.Static

abbrev pub method_part : List (Path × Ty) → Member → MemberPart → Option IfaceMethod
method_part aliases m (part.Static result block) = Some (method m.name (static_kind m.is_private) (param_types m) result [])
method_part aliases m (part.Abstract result) = Some (method m.name kind.Abstract (param_types m) result [])
method_part aliases m (part.Body result when block) = Some (method m.name kind.Body (param_types m) result aliases)
method_part aliases m _ = None

-- a member that is a method, with the aliases that it reads on entry
abbrev pub as_method_with : List (Path × Ty) → Member → Option IfaceMethod
as_method_with aliases m = method_part aliases m m.part

abbrev pub as_method : Member → Option IfaceMethod
as_method m = as_method_with [] m

-- the constructors of a class; one that has none written has one without parameters
abbrev pub or_default : Bool → List (List Ty) → List (List Ty)
or_default true all = all
or_default false [] = [] ∷ []
or_default false (ps ∷ all) = ps ∷ all

-- the superclass of a class, which is Object where none is written; an interface has none
abbrev pub superclass_of : Decl → Option Word
superclass_of d = cond d.is_interface None (Some (unwrap_or d.superclass object))

-- a declaration as the members of its unit see it: its guards and what its bodies read on entry aren't seen
abbrev pub head : Decl → Iface
head d = record {
  name = d.name;
  is_abstract = d.is_abstract;
  is_final = d.is_final;
  is_interface = d.is_interface;
  superclass = superclass_of d;
  interfaces = d.interfaces;
  fields = filter_map as_field d.members;
  constructors = or_default d.is_interface (filter_map as_constructor d.members);
  methods = filter_map as_method d.members;
}

-- all that the members of a unit see: the language's own classes, the unit's, and others
abbrev pub heads_of : List Decl → List Iface → List Iface
heads_of decls others = own_heads ++ (map head decls ++ others)

-- NAMES OF CLASSES

-- the first class of that name
abbrev pub head_of : List Iface → Word → Option Iface
head_of heads name = find (λ h. same h.name name) heads

-- a class, and no interface
abbrev pub is_class : Iface → Bool
is_class h = not h.is_interface

-- a class of which there are objects
abbrev pub is_concrete : Iface → Bool
is_concrete h = not h.is_interface && not h.is_abstract

abbrev pub names_class : List Iface → Word → Bool
names_class heads name = option_map_or is_class (head_of heads name) false

abbrev pub names_interface : List Iface → Word → Bool
names_interface heads name = option_map_or (λ h. h.is_interface) (head_of heads name) false

-- the one is the other or has it as a supertype
abbrev pub is_under : List Iface → Word → Word → Bool
is_under heads lower upper = is_below (hier_of heads) lower upper

-- one of the two is below the other
abbrev pub are_related : List Iface → Word → Word → Bool
are_related heads a b = is_under heads a b || is_under heads b a
