-- Names in code: what they stand for where they are written.
use Rattle.std.specs.Prelude.{ℕ, ◌+◌, List, [], ◌∷◌, map, Bool, true, false, not, ◌&&◌, ◌||◌, Option, Some, None, if◌then◌else◌, codes}
use Rattle.std.specs.Option.{option_and_then, is_some}
use Rattle.jp_pred.specs.declared.ty.Ty.{Ty}
use Rattle.jp_pred.specs.declared.ty.Ty.TheVariants as ty
use Rattle.jp_pred.specs.Names.{Word, object, same}
use Rattle.iface_codec.specs.declared.iface.Iface.{Iface}
use Rattle.iface_codec.specs.declared.iface.IfaceField.{IfaceField}
use Rattle.iface_codec.specs.declared.iface.IfaceMethod.{IfaceMethod}
use Rattle.type_rules.specs.declared.scope.Scope.{Scope}
use Rattle.type_rules.specs.declared.scope.Variable.{Variable}
use Rattle.type_rules.specs.declared.seen.Known.{Known}
use Rattle.type_rules.specs.declared.seen.Seen.{Seen}
use Rattle.type_rules.specs.declared.seen.Seen.TheVariants as seen
use Rattle.type_rules.specs.declared.seen.Role.{Role}
use Rattle.type_rules.specs.declared.seen.Role.TheVariants as role
use Rattle.type_rules.specs.Types.{io}
use Rattle.jp_meaning.specs.Classes.{is_static}
use Rattle.type_rules.specs.Heads.{head_of, is_concrete, names_class}
use Rattle.type_rules.specs.Lookups.{field_of, method_of}
use Rattle.type_rules.specs.Assigning.{typed}

-- VARIABLES

-- the names of variables
abbrev pub names_of : List Variable → List Word
names_of vs = map (λ v. v.name) vs

-- the slot and the type of the first variable of that name, where the first one has that slot
abbrev pub variable_from : ℕ → Word → List Variable → Option (ℕ × Ty)
variable_from at name [] = None
variable_from at name (v ∷ vs) = if same v.name name then Some (at, v.ty) else variable_from (at + 1) name vs

-- the slots that the receiver takes
abbrev pub receiver_slots : Bool → ℕ
receiver_slots true = 0
receiver_slots false = 1

-- the slot and the type of the local, alias or parameter of that name
abbrev pub variable_of : Scope → Word → Option (ℕ × Ty)
variable_of s name = variable_from (receiver_slots s.is_static) name s.variables

-- the field of that name of the scope's class
abbrev pub own_field : Scope → Word → Option (Word × IfaceField)
own_field s name = field_of s.heads s.class s.class name

-- the name is that of a local, alias, parameter or visible field
abbrev pub is_value_name : Scope → Word → Bool
is_value_name s name = is_some (variable_of s name) || is_some (own_field s name)

-- the role is directly before a dot
abbrev pub is_before_dot : Role → Bool
is_before_dot role.BeforeDot = true
is_before_dot _ = false

-- the name, written in such a role, is that of a class
abbrev pub is_class_name : Scope → Role → Word → Bool
is_class_name s r name = is_before_dot r && names_class s.heads name

-- CALLS

-- the class in which a method of a value's type is looked for
abbrev pub class_of_type : Ty → Option Word
class_of_type (ty.Class name) = Some name
class_of_type _ = None

abbrev pub class_of_value : Known → Option Word
class_of_value k = if k.is_null then None else class_of_type k.expr.ty

-- the class in which a called method is looked for: that before the dot, that of the value there, or the scope's own
abbrev pub called_in : Scope → Option Seen → Option Word
called_in s None = Some s.class
called_in s (Some (seen.Class name)) = Some name
called_in s (Some (seen.Value k)) = option_and_then class_of_value (typed (seen.Value k))
called_in s (Some part) = None

-- the method that a call means, with the class that declares it
abbrev pub called : Scope → Option Seen → Word → ℕ → Option (Word × IfaceMethod)
called s object name count = option_and_then (λ class. method_of s.heads s.class class name count) (called_in s object)

-- what stands before the dot is a class
abbrev pub is_class_seen : Seen → Bool
is_class_seen (seen.Class name) = true
is_class_seen _ = false

-- the call is written as `Io.text(..)`
abbrev pub is_text_call : Option Seen → Word → Bool
is_text_call (Some (seen.Class class)) name = same class io && same name (codes "text")
is_text_call _ name = false

-- the superclass of the scope's class, where it is a concrete class other than Object
abbrev pub concrete_super : Scope → Option Iface
concrete_super s =
    option_and_then (λ h. if is_concrete h && not (same h.name object) then Some h else None)
    (option_and_then (head_of s.heads) (option_and_then (λ h. h.superclass) (head_of s.heads s.class)))

-- a method that isn't static, behind a class
abbrev pub family_of : Word → Word × IfaceMethod → Option (Word × IfaceMethod)
family_of class m = if is_static m.1.kind then None else Some (class, m.1)

-- the family of that name and count that `super.` calls, behind the superclass, which has it
abbrev pub super_method : Scope → Word → ℕ → Option (Word × IfaceMethod)
super_method s name count =
    option_and_then (λ h. option_and_then (family_of h.name) (method_of s.heads s.class h.name name count)) (concrete_super s)
