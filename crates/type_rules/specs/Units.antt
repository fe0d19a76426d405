-- Members, declarations and units: the nodes of them, and their resolved trees.
use Rattle.std.specs.Prelude.{ℕ, ◌+◌, List, [], ◌∷◌, ◌++◌, map, length, Bool, true, false, Option, Some, None, if◌then◌else◌, cond}
use Rattle.std.specs.Option.{option_map, option_map_or, option_and_then, is_some}
use Rattle.std.specs.List.{flat_map, filter_map}
use Rattle.jp_pred.specs.declared.ty.Ty.{Ty}
use Rattle.jp_pred.specs.declared.ty.Ty.TheVariants as ty
use Rattle.jp_pred.specs.declared.path.Path.{Path}
use Rattle.iface_codec.specs.declared.iface.Iface.{Iface}
use Rattle.jp_ast.specs.declared.expr.Expr.{Expr}
use Rattle.jp_ast.specs.declared.stmt.Stmt.{Stmt}
use Rattle.jp_ast.specs.declared.guard.GuardExpr.{GuardExpr}
use Rattle.jp_ast.specs.declared.decl.SourceUnit.{SourceUnit}
use Rattle.jp_ast.specs.declared.decl.Decl.{Decl}
use Rattle.jp_ast.specs.declared.decl.Member.{Member}
use Rattle.jp_ast.specs.declared.decl.MemberPart.{MemberPart}
use Rattle.jp_ast.specs.declared.decl.MemberPart.TheVariants as part
use Rattle.jp_ast.specs.declared.decl.Param.{Param}
use Rattle.jp_meaning.specs.declared.expr.TypedExpr.{TypedExpr}
use Rattle.jp_meaning.specs.declared.stmt.TypedStmt.{TypedStmt}
use Rattle.jp_meaning.specs.declared.guard.TypedGuard.{TypedGuard}
use Rattle.jp_meaning.specs.declared.unit.TypedPart.{TypedPart}
use Rattle.jp_meaning.specs.declared.unit.TypedPart.TheVariants as typed
use Rattle.jp_meaning.specs.declared.unit.TypedMember.{TypedMember}
use Rattle.jp_meaning.specs.declared.unit.TypedClass.{TypedClass}
use Rattle.jp_meaning.specs.declared.unit.TypedUnit.{TypedUnit}
use Rattle.type_rules.specs.declared.scope.Scope.{Scope}
use Rattle.type_rules.specs.declared.scope.Variable.{Variable}
use Rattle.type_rules.specs.declared.guard_scope.GuardScope.{GuardScope}
use Rattle.type_rules.specs.declared.guard_scope.Alias.{Alias}
use Rattle.type_rules.specs.Heads.{as_field, as_constructor, as_method_with, as_method, head, heads_of}
use Rattle.type_rules.specs.Lookups.{constructor_of}
use Rattle.type_rules.specs.Names.{receiver_slots}
use Rattle.type_rules.specs.RulesOfDeclarations.{super_head, has_no_constructor}
use Rattle.type_rules.specs.Nodes.{Node, AtDecl, AtMember, AtParam, Visit}
use Rattle.type_rules.specs.Completing.{can_complete}
use Rattle.type_rules.specs.Expressions.{Part, seen_all, visits_all, arguments}
use Rattle.type_rules.specs.Statements.{Flow, Waiting, waiting, operand, flow, visits_along, most_along, made_along, count}
use Rattle.type_rules.specs.Guards.{Guarded, guarded}

-- A member whose parts wait for their scopes: its guard and the arguments of `super(..)`, where they are written, and its
-- statements, with whether these can complete
pub record Opened : Type 0 where
  pub member : Member
  pub guard : Option (GuardScope → Guarded)
  pub super_args : Option (List Waiting)
  pub block : List (Scope → Flow)
  pub completes : Bool

-- a declaration with its members
pub record OpenDecl : Type 0 where
  pub decl : Decl
  pub members : List Opened

abbrev pub guard_part : MemberPart → Option GuardExpr
guard_part (part.Body result guard block) = guard
guard_part _ = None

abbrev pub super_part : MemberPart → Option (List Expr)
super_part (part.Constructor args block) = args
super_part _ = None

abbrev pub block_part : MemberPart → List Stmt
block_part (part.Static result block) = block
block_part (part.Body result guard block) = block
block_part (part.Constructor args block) = block
block_part _ = []

abbrev pub opened : Member → Opened
opened m = record {
  member = m;
  guard = option_map guarded (guard_part m.part);
  super_args = option_map (map waiting) (super_part m.part);
  block = map flow (block_part m.part);
  completes = can_complete (block_part m.part);
}

abbrev pub open_decl : Decl → OpenDecl
open_decl d = record { decl = d; members = map opened d.members }

-- where a member stands: the heads that it sees, its declaration, and the members before it
pub record Seat : Type 0 where
  pub heads : List Iface
  pub decl : Decl
  pub earlier : List Member

-- SCOPES

-- the parameters of a member, as variables
abbrev pub params_of : Member → List Variable
params_of m = map (λ p. record { name = p.name; ty = p.ty }) m.params

-- the scope of a guard
abbrev pub guard_scope : Seat → Member → GuardScope
guard_scope seat m =
    record { heads = seat.heads; class = seat.decl.name; params = params_of m; aliases = []; tests = []; is_outermost = true }

-- what the guard of a member does
abbrev pub guard_of : Seat → Opened → Option Guarded
guard_of seat m = option_map (λ g. g (guard_scope seat m.member)) m.guard

-- the aliases of a member's guard
abbrev pub aliases_of : Seat → Opened → List Alias
aliases_of seat m = option_map_or (λ x. x.after.aliases) (guard_of seat m) []

abbrev pub result_part : MemberPart → Ty
result_part (part.Static result block) = result
result_part (part.Abstract result) = result
result_part (part.Body result guard block) = result
result_part _ = ty.Void

abbrev pub is_static_part : MemberPart → Bool
is_static_part (part.Static result block) = true
is_static_part _ = false

-- the scope of a member's statements, its parameters and aliases in it
abbrev pub body_scope : Seat → Opened → Scope
body_scope seat m = record {
  heads = seat.heads;
  class = seat.decl.name;
  is_static = is_static_part m.member.part;
  result = result_part m.member.part;
  is_in_loop = false;
  variables = params_of m.member ++ map (λ a. record { name = a.name; ty = a.ty }) (aliases_of seat m);
}

-- the arguments of `super(..)`, where it is written
abbrev pub super_parts : Seat → Opened → Option (List Part)
super_parts seat m = option_map (map (operand (body_scope seat m))) m.super_args

-- NODES OF A MEMBER

-- a member, as the rules look at it
abbrev pub member_node : Seat → Opened → Node
member_node seat m = AtMember (record {
  heads = seat.heads;
  decl = seat.decl;
  earlier = seat.earlier;
  member = m.member;
  super_args = option_map seen_all (super_parts seat m);
  completes = m.completes;
})

-- the parameters, each with those before it
abbrev pub param_visits : List Param → List Param → List Visit
param_visits earlier [] = []
param_visits earlier (p ∷ ps) = record { place = p.place; node = AtParam earlier p } ∷ param_visits (earlier ++ p ∷ []) ps

-- the nodes of a member
abbrev pub member_visits : Seat → Opened → List Visit
member_visits seat m =
    param_visits [] m.member.params ++ (option_map_or (λ x. x.visits) (guard_of seat m) []
    ++ (option_map_or visits_all (super_parts seat m) []
    ++ (visits_along m.block (body_scope seat m)
    ++ record { place = m.member.place; node = member_node seat m } ∷ [])))

-- THE RESOLVED TREE OF A MEMBER

-- the position of a member in its list of the head
abbrev pub place_in : List Member → Member → TypedPart
place_in earlier m =
    if is_some (as_field m) then typed.Field (length (filter_map as_field earlier))
    else if is_some (as_constructor m) then typed.Constructor (length (filter_map as_constructor earlier))
    else typed.Method (length (filter_map as_method earlier))

-- the slots of a member; a field has none
abbrev pub slots_of : Seat → Opened → ℕ
slots_of seat m =
    if is_some (as_field m.member) then 0
    else receiver_slots (is_static_part m.member.part) + most_along (count (body_scope seat m)) m.block (body_scope seat m)

-- a guard, where there is none or one without a fault
abbrev pub made_guard : Option Guarded → Option (Option TypedGuard)
made_guard None = Some None
made_guard (Some x) = option_map Some x.made

-- the number of the arguments of `super(..)`
abbrev pub super_count : Opened → ℕ
super_count m = option_map_or length m.super_args 0

-- the parameters of the superclass's constructor that a constructor calls; none of another member
abbrev pub super_params : Seat → Opened → List Ty
super_params seat m = if is_some (as_constructor m.member)
    then flat_map (λ h. option_map_or (λ ts. ts) (constructor_of h (super_count m)) []) (super_head seat.heads seat.decl)
    else []

-- a member from its parts
abbrev pub member_from : Seat → Opened → Option TypedGuard → List TypedExpr → List TypedStmt → TypedMember
member_from seat m guard args block = record {
  part = place_in seat.earlier m.member;
  locals = slots_of seat m;
  guard = guard;
  super_params = super_params seat m;
  super_args = args;
  block = block;
}

-- the resolved member, where each part has no fault
abbrev pub made_member : Seat → Opened → Option TypedMember
made_member seat m =
    option_and_then (λ guard. option_and_then (λ args. option_map (λ block. member_from seat m guard args block)
    (made_along (Some []) m.block (body_scope seat m)))
    (arguments (Some []) (option_map_or seen_all (super_parts seat m) []))) (made_guard (guard_of seat m))

-- DECLARATIONS

-- the members of a declaration, each with its seat
abbrev pub seats : List Iface → Decl → List Member → List Opened → List (Seat × Opened)
seats heads d earlier [] = []
seats heads d earlier (m ∷ ms) =
    (record { heads = heads; decl = d; earlier = earlier }, m) ∷ seats heads d (earlier ++ m.member ∷ []) ms

abbrev pub seats_of : List Iface → OpenDecl → List (Seat × Opened)
seats_of heads d = seats heads d.decl [] d.members

-- the nodes of a declaration, where those before it are given
abbrev pub decl_visits : List Iface → List Decl → OpenDecl → List Visit
decl_visits heads before d =
    flat_map (λ x. member_visits x.0 x.1) (seats_of heads d)
    ++ record { place = d.decl.place; node = AtDecl (record { heads = heads; earlier = before; decl = d.decl }) } ∷ []

-- the constructor of a class that has none written
abbrev pub default_constructor : TypedMember
default_constructor =
    record { part = typed.Constructor 0; locals = 1; guard = None; super_params = []; super_args = []; block = [] }

abbrev pub with_default : Decl → List TypedMember → List TypedMember
with_default d ms = cond d.is_interface ms (if has_no_constructor d then ms ++ default_constructor ∷ [] else ms)

-- the resolved members behind those so far
abbrev pub made_members : Option (List TypedMember) → List (Seat × Opened) → Option (List TypedMember)
made_members done [] = done
made_members done (x ∷ xs) = made_members (option_and_then (λ ms. option_map (λ m. ms ++ m ∷ []) (made_member x.0 x.1)) done) xs

-- what a body reads on entry
abbrev pub entry_of : Seat → Opened → List (Path × Ty)
entry_of seat m = map (λ a. (a.path, a.ty)) (aliases_of seat m)

-- the head of a declaration, with what its bodies read on entry
abbrev pub resolved_head : List Iface → OpenDecl → Iface
resolved_head heads d = record (head d.decl) { methods = filter_map (λ x. as_method_with (entry_of x.0 x.1) x.1.member) (seats_of heads d) }

-- the resolved declaration, where each member has no fault
abbrev pub made_class : List Iface → OpenDecl → Option TypedClass
made_class heads d =
    option_map (λ ms. record { head = resolved_head heads d; members = with_default d.decl ms }) (made_members (Some []) (seats_of heads d))

-- UNITS

abbrev pub visits_from : List Iface → List Decl → List OpenDecl → List Visit
visits_from heads before [] = []
visits_from heads before (d ∷ ds) = decl_visits heads before d ++ visits_from heads (before ++ d.decl ∷ []) ds

abbrev pub made_classes : List Iface → Option (List TypedClass) → List OpenDecl → Option (List TypedClass)
made_classes heads done [] = done
made_classes heads done (d ∷ ds) = made_classes heads (option_and_then (λ cs. option_map (λ c. cs ++ c ∷ []) (made_class heads d)) done) ds

-- the nodes of a unit, given all heads that are seen
abbrev pub visits_in : List Iface → List OpenDecl → List Visit
visits_in heads ds = visits_from heads [] ds

-- the resolved unit, where no part of it has a fault
abbrev pub unit_in : List Iface → List OpenDecl → Option TypedUnit
unit_in heads ds = option_map (λ cs. record { classes = cs }) (made_classes heads (Some []) ds)

-- the same, given the heads of other classes
abbrev pub visits_of : SourceUnit → List Iface → List Visit
visits_of unit others = visits_in (heads_of unit.decls others) (map open_decl unit.decls)

abbrev pub made_unit : SourceUnit → List Iface → Option TypedUnit
made_unit unit others = unit_in (heads_of unit.decls others) (map open_decl unit.decls)
