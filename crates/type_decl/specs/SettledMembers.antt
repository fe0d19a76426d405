-- Members that are settled: their own nodes are judged, and they are resolved where they have no fault.
use Rattle.std.specs.Prelude.{◌≡◌, List, [], Option, Some}
use Rattle.std.specs.Option.{option_map_or}
use Rattle.iface_codec.specs.declared.iface.Iface.{Iface}
use Rattle.iface_codec.specs.declared.iface.IfaceMethod.{IfaceMethod}
use Rattle.jp_ast.specs.declared.decl.Decl.{Decl}
use Rattle.jp_ast.specs.declared.decl.Member.{Member}
use Rattle.jp_meaning.specs.declared.unit.TypedPart.{TypedPart}
use Rattle.jp_meaning.specs.declared.unit.TypedMember.{TypedMember}
use Rattle.type_rules.specs.declared.fault.TypeFault.{TypeFault}
use Rattle.type_rules.specs.Heads.{as_method_with}
use Rattle.type_rules.specs.Expressions.{arguments}
use Rattle.type_rules.specs.Table.{faults_of}
use Rattle.type_rules.specs.Typing.{earlier}
use Rattle.type_rules.specs.Units.{opened, super_params}
use Rattle.type_decl.specs.declared.settling.Settled.{Settled}
use Rattle.type_decl.specs.declared.walking.Walked.{Walked}
use Rattle.type_decl.specs.Parts.{seat_of}
use Rattle.type_decl.specs.Settling.{own_visits, made_front, methods_front, member_of}

-- the resolved member from its walked parts
abbrev pub settled_from : List Iface → Decl → Member → TypedPart → Walked → Option TypedMember
settled_from heads d m part w =
    member_of part w.locals w.guard (super_params (seat_of heads d) (opened m)) (arguments (Some []) (option_map_or (λ parts. parts) w.super_args [])) w.block

-- A member is resolved from its walked parts, and has its head
pub record SettlesOne (heads : List Iface) (d : Decl) (m : Member) (part : TypedPart) (w : Walked) (one : Settled) : Type 0 where
  pub made_is : one.made ≡ settled_from heads d m part w
  pub method_is : one.method ≡ as_method_with w.entry m

-- The own nodes of the first members of a declaration are judged, and these are resolved where none has a fault
pub record SettlesMembers (heads : List Iface) (d : Decl) (ms : List Member) (old new : Option TypeFault) (made : Option (List TypedMember)) (methods : List IfaceMethod) : Type 0 where
  pub made_are : made ≡ made_front heads d ms
  pub methods_are : methods ≡ methods_front heads d ms
  pub first : new ≡ earlier old (faults_of (own_visits heads d [] ms))
