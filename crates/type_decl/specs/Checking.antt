-- Declarations and units that are checked, with the first fault so far, and what the check answers.
use Rattle.std.specs.Prelude.{◌≡◌, List, [], ◌∷◌, ◌++◌, map, Option, Some, Result, Ok, Err}
use Rattle.std.specs.Option.{option_map, option_and_then}
use Rattle.iface_codec.specs.declared.iface.Iface.{Iface}
use Rattle.iface_codec.specs.declared.iface.IfaceMethod.{IfaceMethod}
use Rattle.jp_ast.specs.declared.decl.SourceUnit.{SourceUnit}
use Rattle.jp_ast.specs.declared.decl.Decl.{Decl}
use Rattle.jp_meaning.specs.declared.unit.TypedMember.{TypedMember}
use Rattle.jp_meaning.specs.declared.unit.TypedClass.{TypedClass}
use Rattle.jp_meaning.specs.declared.unit.TypedUnit.{TypedUnit}
use Rattle.type_rules.specs.declared.fault.TypeFault.{TypeFault}
use Rattle.type_rules.specs.Heads.{head}
use Rattle.type_rules.specs.Nodes.{Visit, AtDecl}
use Rattle.type_rules.specs.Table.{faults_of}
use Rattle.type_rules.specs.Typing.{earlier, IsTyped, IsFirstFault}
use Rattle.type_rules.specs.Units.{open_decl, decl_visits, with_default, made_class, visits_from, made_classes, visits_of}
use Rattle.type_heads.specs.declared.error.TypeErr.{TypeErr}
use Rattle.type_heads.specs.declared.error.TypeErr.TheVariants as stop
use Rattle.type_decl.specs.declared.classes.CheckedDecl.{CheckedDecl}
use Rattle.type_decl.specs.Settling.{own_visits}

-- DECLARATIONS

-- the own node of a declaration, behind those
abbrev pub decl_visit : List Iface → List Decl → Decl → Visit
decl_visit heads before d = record { place = d.place; node = AtDecl (record { heads = heads; earlier = before; decl = d }) }

-- the class of these members, with the heads of these methods
abbrev pub class_from : Decl → Option (List TypedMember) → List IfaceMethod → Option TypedClass
class_from d made methods = option_map (λ ms. record { head = record (head d) { methods = methods }; members = with_default d ms }) made

-- the resolved declaration
unfoldable pub class_in : List Iface → Decl → Option TypedClass
class_in heads d = made_class heads (open_decl d)

-- all nodes of a declaration
unfoldable pub nodes_in : List Iface → List Decl → Decl → List Visit
nodes_in heads before d = decl_visits heads before (open_decl d)

-- The own nodes of a declaration and of its members are judged, and it is resolved where it has no fault
pub record SettlesDecl (heads : List Iface) (before : List Decl) (d : Decl) (old new : Option TypeFault) (class : Option TypedClass) : Type 0 where
  pub class_is : class ≡ class_in heads d
  pub first : new ≡ earlier (earlier old (faults_of (own_visits heads d [] d.members))) (faults_of (decl_visit heads before d ∷ []))

-- A declaration is checked, and the heads come back
pub record ChecksDecl (heads : List Iface) (before : List Decl) (d : Decl) (old new : Option TypeFault) (one : CheckedDecl) : Type 0 where
  pub heads_are : one.heads ≡ heads
  pub class_is : one.class ≡ class_in heads d
  pub first : new ≡ earlier old (faults_of (nodes_in heads before d))

-- one resolved declaration more
abbrev pub with_class : Option (List TypedClass) → Option TypedClass → Option (List TypedClass)
with_class so_far class = option_and_then (λ cs. option_map (λ c. cs ++ c ∷ []) class) so_far

-- The first declarations of a unit are checked
pub record ChecksDecls (heads : List Iface) (ds : List Decl) (old new : Option TypeFault) (so_far : Option (List TypedClass)) : Type 0 where
  pub classes_are : so_far ≡ made_classes heads (Some []) (map open_decl ds)
  pub first : new ≡ earlier old (faults_of (visits_from heads [] (map open_decl ds)))

-- UNITS

-- the resolved tree of a unit without a fault, or the first fault
abbrev pub Checks : SourceUnit → List Iface → Result TypedUnit TypeErr → Type 0
Checks unit others (Ok tree) = IsTyped unit others tree
Checks unit others (Err (stop.Fault f)) = IsFirstFault (visits_of unit others) f
Checks unit others (Err stop.OutOfMemory) = Unit {0}
