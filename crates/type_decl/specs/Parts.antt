-- The parts of members: their scopes, what is seen of them and resolved, and their nodes.
use Rattle.std.specs.Prelude.{◌≡◌, ℕ, ◌+◌, List, [], ◌++◌, map, false, Option, Some, if◌then◌else◌}
use Rattle.std.specs.Option.{option_map, option_map_or, is_some}
use Rattle.jp_pred.specs.declared.ty.Ty.{Ty}
use Rattle.jp_pred.specs.declared.path.Path.{Path}
use Rattle.iface_codec.specs.declared.iface.Iface.{Iface}
use Rattle.jp_ast.specs.declared.expr.Expr.{Expr}
use Rattle.jp_ast.specs.declared.guard.GuardExpr.{GuardExpr}
use Rattle.jp_ast.specs.declared.decl.Decl.{Decl}
use Rattle.jp_ast.specs.declared.decl.Member.{Member}
use Rattle.jp_ast.specs.declared.decl.MemberPart.{MemberPart}
use Rattle.jp_ast.specs.declared.decl.Param.{Param}
use Rattle.jp_meaning.specs.declared.stmt.TypedStmt.{TypedStmt}
use Rattle.jp_meaning.specs.declared.guard.TypedGuard.{TypedGuard}
use Rattle.type_rules.specs.declared.fault.TypeFault.{TypeFault}
use Rattle.type_rules.specs.declared.scope.Scope.{Scope}
use Rattle.type_rules.specs.declared.scope.Variable.{Variable}
use Rattle.type_rules.specs.declared.guard_scope.GuardScope.{GuardScope}
use Rattle.type_rules.specs.declared.guard_scope.Alias.{Alias}
use Rattle.type_rules.specs.declared.seen.Seen.{Seen}
use Rattle.type_rules.specs.Nodes.{Visit}
use Rattle.type_rules.specs.Table.{faults_of}
use Rattle.type_rules.specs.Heads.{as_field}
use Rattle.type_rules.specs.Names.{receiver_slots}
use Rattle.type_rules.specs.Expressions.{Part, seen_all, visits_all}
use Rattle.type_rules.specs.Statements.{waiting, operand, count, visits_along, most_along, made_along, flow}
use Rattle.type_rules.specs.Guards.{Guarded, guarded}
use Rattle.type_rules.specs.Units.{Seat, opened, block_part, is_static_part, result_part, guard_of, body_scope, super_parts, param_visits, made_guard, slots_of, entry_of}
use Rattle.type_rules.specs.Typing.{earlier}

-- SEATS

-- where a member stands, behind these of its declaration
abbrev pub seat_in : List Iface → Decl → List Member → Seat
seat_in heads d before = record { heads = heads; decl = d; earlier = before }

-- The same, for what doesn't depend on the members before
abbrev pub seat_of : List Iface → Decl → Seat
seat_of heads d = seat_in heads d []

-- SCOPES

abbrev pub param_variable : Param → Variable
param_variable p = record { name = p.name; ty = p.ty }

abbrev pub alias_variable : Alias → Variable
alias_variable a = record { name = a.name; ty = a.ty }

-- what a body with the alias reads on entry
abbrev pub alias_entry : Alias → Path × Ty
alias_entry a = (a.path, a.ty)

-- the scope of statements behind a guard
abbrev pub scope_behind : GuardScope → MemberPart → Scope
scope_behind c p = record {
  heads = c.heads;
  class = c.class;
  is_static = is_static_part p;
  result = result_part p;
  is_in_loop = false;
  variables = c.params ++ map alias_variable c.aliases;
}

-- GUARDS

-- what a guard does in the scope, where there is one
abbrev pub guarding : Option GuardExpr → GuardScope → Option Guarded
guarding x c = option_map (λ g. g c) (option_map guarded x)

-- A guard is walked, where there is one: the scope has its aliases, and the first fault so far takes in its own
pub record WalksGuard (x : Option GuardExpr) (c d : GuardScope) (old new : Option TypeFault) (made : Option (Option TypedGuard)) : Type 0 where
  pub aliases : d.aliases ≡ option_map_or (λ g. g.after.aliases) (guarding x c) c.aliases
  pub made_is : made ≡ made_guard (guarding x c)
  pub first : new ≡ earlier old (faults_of (option_map_or (λ g. g.visits) (guarding x c) []))
  pub heads : d.heads ≡ c.heads
  pub class : d.class ≡ c.class
  pub params : d.params ≡ c.params

-- THE ARGUMENTS OF `super(..)`

abbrev pub supering : Scope → Option (List Expr) → Option (List Part)
supering c x = option_map (map (operand c)) (option_map (map waiting) x)

-- The arguments are seen so, where they are written, and the first fault so far takes in their own
pub record SeesSuper (c : Scope) (x : Option (List Expr)) (old new : Option TypeFault) (found : Option (List Seen)) : Type 0 where
  pub seen : found ≡ option_map seen_all (supering c x)
  pub first : new ≡ earlier old (faults_of (option_map_or visits_all (supering c x) []))

-- PARTS OF A MEMBER

-- what its body reads on entry
unfoldable pub entry_in : List Iface → Decl → Member → List (Path × Ty)
entry_in heads d m = entry_of (seat_of heads d) (opened m)

-- its guard, where it has none or one without a fault
unfoldable pub guard_in : List Iface → Decl → Member → Option (Option TypedGuard)
guard_in heads d m = made_guard (guard_of (seat_of heads d) (opened m))

-- the scope of its statements
unfoldable pub scope_in : List Iface → Decl → Member → Scope
scope_in heads d m = body_scope (seat_of heads d) (opened m)

-- what is seen of the arguments of `super(..)`
unfoldable pub super_in : List Iface → Decl → Member → Option (List Seen)
super_in heads d m = option_map seen_all (super_parts (seat_of heads d) (opened m))

-- its statements, where none has a fault
unfoldable pub block_in : List Iface → Decl → Member → Option (List TypedStmt)
block_in heads d m = made_along (Some []) (map flow (block_part m.part)) (body_scope (seat_of heads d) (opened m))

-- its slots
unfoldable pub slots_in : List Iface → Decl → Member → ℕ
slots_in heads d m = slots_of (seat_of heads d) (opened m)

-- the nodes of its parameters and its guard
unfoldable pub front_visits : List Iface → Decl → Member → List Visit
front_visits heads d m = param_visits [] m.params ++ option_map_or (λ g. g.visits) (guard_of (seat_of heads d) (opened m)) []

-- the nodes of the arguments of `super(..)`
unfoldable pub super_visits : List Iface → Decl → Member → List Visit
super_visits heads d m = option_map_or visits_all (super_parts (seat_of heads d) (opened m)) []

-- the nodes of its statements
unfoldable pub block_visits : List Iface → Decl → Member → List Visit
block_visits heads d m = visits_along (map flow (block_part m.part)) (body_scope (seat_of heads d) (opened m))

-- all of these
abbrev pub part_visits : List Iface → Decl → Member → List Visit
part_visits heads d m = front_visits heads d m ++ (super_visits heads d m ++ block_visits heads d m)

-- the slots of a member whose statements stand in the scope
abbrev pub slots_taken : Member → Scope → ℕ
slots_taken m c =
    if is_some (as_field m) then 0 else receiver_slots (is_static_part m.part) + most_along (count c) (map flow (block_part m.part)) c
