-- Members that are found upwards from a class.
use Rattle.std.specs.Prelude.{ℕ, zero, suc, List, [], ◌∷◌, ◌++◌, map, length, Bool, true, false, not, ◌&&◌, ◌||◌, ◌==◌, Option, Some, None, option_and_then, if◌then◌else◌}
use Rattle.std.specs.List.{find, filter_map, flat_map}
use Rattle.std.specs.Option.{option_map, option_or, option_map_or}
use Rattle.jp_pred.specs.declared.ty.Ty.{Ty}
use Rattle.jp_pred.specs.Names.{Word, same}
use Rattle.iface_codec.specs.declared.iface.Iface.{Iface}
use Rattle.iface_codec.specs.declared.iface.IfaceField.{IfaceField}
use Rattle.iface_codec.specs.declared.iface.IfaceMethod.{IfaceMethod}
use Rattle.iface_codec.specs.declared.iface.MethodKind.{MethodKind}
use Rattle.iface_codec.specs.declared.iface.MethodKind.TheVariants as kind
use Rattle.type_rules.specs.Types.{is_among}
use Rattle.type_rules.specs.Heads.{head_of}

-- SUPERTYPES, each once, also in a hierarchy with a cycle

-- what a name and those met before lead to, where it names a class that wasn't met
abbrev pub unless_met : {A : Type 0} → List Iface → List Word → Option Word → (Iface → List A) → List A
unless_met heads met None go = []
unless_met heads met (Some name) go = if is_among name met then [] else option_map_or go (head_of heads name) []

-- a class and its superclasses upwards, up to one that was met
abbrev pub climb : ℕ → List Iface → List Word → Option Word → List Iface
climb zero heads met name = []
climb (suc n) heads met name = unless_met heads met name (λ h. h ∷ climb n heads (h.name ∷ met) h.superclass)

-- the superclasses of a class, upwards
abbrev pub superclasses : List Iface → Iface → List Iface
superclasses heads h = climb (length heads) heads (h.name ∷ []) h.superclass

-- the names that weren't met, each once
abbrev pub unmet : List Word → List Word → List Word
unmet met [] = []
unmet met (n ∷ ns) = if is_among n met then unmet met ns else n ∷ unmet (n ∷ met) ns

-- the interfaces that a name's class names
abbrev pub interfaces_of : List Iface → Word → List Word
interfaces_of heads name = option_map_or (λ h. h.interfaces) (head_of heads name) []

-- these interfaces, then those that they extend and that weren't met, and so on: at most n times
abbrev pub breadth_first : ℕ → List Iface → List Word → List Word → List Word
breadth_first zero heads met now = []
breadth_first (suc n) heads met [] = []
breadth_first (suc n) heads met (name ∷ more) =
    (name ∷ more) ++ breadth_first n heads (met ++ (name ∷ more)) (unmet (met ++ (name ∷ more)) (flat_map (interfaces_of heads) (name ∷ more)))

-- the names of classes
abbrev pub class_names : List Iface → List Word
class_names hs = map (λ h. h.name) hs

-- the interfaces of these classes, and all that they extend
abbrev pub interfaces_above : List Iface → List Iface → List Iface
interfaces_above heads hs =
    filter_map (head_of heads) (breadth_first (length heads) heads (class_names hs) (unmet (class_names hs) (flat_map (λ h. h.interfaces) hs)))

-- the proper supertypes of a class: its superclasses, then the interfaces of it and of these breadth first
abbrev pub supertypes : List Iface → Iface → List Iface
supertypes heads h = superclasses heads h ++ interfaces_above heads (h ∷ superclasses heads h)

-- FIELDS

abbrev pub field_named : Word → List IfaceField → Option IfaceField
field_named name fields = find (λ f. same f.name name) fields

-- the first field of that name in these classes, with the class that declares it
abbrev pub field_among : Word → List Iface → Option (Word × IfaceField)
field_among name [] = None
field_among name (h ∷ hs) = option_or (option_map (λ f. (h.name, f)) (field_named name h.fields)) (field_among name hs)

-- a field that is private stands only in the code of its own class
abbrev pub visible : Word → Word × IfaceField → Option (Word × IfaceField)
visible own found = if not found.1.is_private || same found.0 own then Some found else None

-- the field of that name of a class, its own or a superclass's, where code of the class `own` sees it
abbrev pub field_of : List Iface → Word → Word → Word → Option (Word × IfaceField)
field_of heads own class name =
    option_and_then (visible own) (option_and_then (λ h. field_among name (h ∷ superclasses heads h)) (head_of heads class))

abbrev pub same_truth : Bool → Bool → Bool
same_truth true b = b
same_truth false b = not b

-- the same, where it is static or isn't
abbrev pub field_that : Bool → List Iface → Word → Word → Word → Option (Word × IfaceField)
field_that static heads own class name =
    option_and_then (λ f. if same_truth f.1.is_static static then Some f else None) (field_of heads own class name)

-- METHODS

-- a private static method is seen in its own class alone
abbrev pub is_seen : Word → Word → MethodKind → Bool
is_seen own class kind.PrivateStatic = same class own
is_seen own class _ = true

-- the method has the name and the count of parameters, and code of the class `own` sees it
abbrev pub is_called : Word → Word → ℕ → Word → IfaceMethod → Bool
is_called own name count class m = same m.name name && length m.params == count && is_seen own class m.kind

-- the first of these classes' methods that is called so, with the class that declares it
abbrev pub method_among : Word → Word → ℕ → List Iface → Option (Word × IfaceMethod)
method_among own name count [] = None
method_among own name count (h ∷ hs) =
    option_or (option_map (λ m. (h.name, m)) (find (is_called own name count h.name) h.methods)) (method_among own name count hs)

-- the method of that name and count that a call on a class means: its own, a superclass's, or an interface's
abbrev pub method_of : List Iface → Word → Word → Word → ℕ → Option (Word × IfaceMethod)
method_of heads own class name count = option_and_then (λ h. method_among own name count (h ∷ supertypes heads h)) (head_of heads class)

-- CONSTRUCTORS

-- the parameters of the first constructor of that count
abbrev pub constructor_of : Iface → ℕ → Option (List Ty)
constructor_of h count = find (λ params. length params == count) h.constructors
