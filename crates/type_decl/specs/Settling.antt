-- Members whose own nodes are judged and which are resolved, with the first fault so far.
use Rattle.std.specs.Prelude.{ℕ, List, [], ◌∷◌, ◌++◌, map, Option, Some}
use Rattle.std.specs.List.{filter_map}
use Rattle.std.specs.Option.{option_map, option_and_then}
use Rattle.jp_pred.specs.declared.ty.Ty.{Ty}
use Rattle.iface_codec.specs.declared.iface.Iface.{Iface}
use Rattle.iface_codec.specs.declared.iface.IfaceMethod.{IfaceMethod}
use Rattle.jp_ast.specs.declared.decl.Decl.{Decl}
use Rattle.jp_ast.specs.declared.decl.Member.{Member}
use Rattle.jp_meaning.specs.declared.expr.TypedExpr.{TypedExpr}
use Rattle.jp_meaning.specs.declared.stmt.TypedStmt.{TypedStmt}
use Rattle.jp_meaning.specs.declared.guard.TypedGuard.{TypedGuard}
use Rattle.jp_meaning.specs.declared.unit.TypedPart.{TypedPart}
use Rattle.jp_meaning.specs.declared.unit.TypedMember.{TypedMember}
use Rattle.type_rules.specs.Nodes.{Visit}
use Rattle.type_rules.specs.Heads.{as_method_with}
use Rattle.type_rules.specs.Units.{Seat, Opened, opened, member_node, made_member, seats, made_members, entry_of}
use Rattle.type_decl.specs.Parts.{seat_in}

-- the own node of a member, behind these
unfoldable pub own_visit : List Iface → Decl → List Member → Member → Visit
own_visit heads d before m = record { place = m.place; node = member_node (seat_in heads d before) (opened m) }

-- the own nodes of members, each with those before it
abbrev pub own_visits : List Iface → Decl → List Member → List Member → List Visit
own_visits heads d before [] = []
own_visits heads d before (m ∷ ms) = own_visit heads d before m ∷ own_visits heads d (before ++ m ∷ []) ms

-- the resolved member, behind these
unfoldable pub made_in : List Iface → Decl → List Member → Member → Option TypedMember
made_in heads d before m = made_member (seat_in heads d before) (opened m)

-- members that are the first ones of a declaration, each with its seat
abbrev pub front_seats : List Iface → Decl → List Member → List (Seat × Opened)
front_seats heads d ms = seats heads d [] (map opened ms)

-- these resolved, where each has no fault
unfoldable pub made_front : List Iface → Decl → List Member → Option (List TypedMember)
made_front heads d ms = made_members (Some []) (front_seats heads d ms)

-- the head of a method among these, with what it reads on entry
abbrev pub method_at : Seat × Opened → Option IfaceMethod
method_at x = as_method_with (entry_of x.0 x.1) x.1.member

-- the heads of the methods among them
unfoldable pub methods_front : List Iface → Decl → List Member → List IfaceMethod
methods_front heads d ms = filter_map method_at (front_seats heads d ms)

-- a member from its parts, where each is there
abbrev pub member_of : TypedPart → ℕ → Option (Option TypedGuard) → List Ty → Option (List TypedExpr) → Option (List TypedStmt) → Option TypedMember
member_of part locals guard tys args block =
    option_and_then (λ g. option_and_then (λ a. option_map (λ b. record { part = part; locals = locals; guard = g; super_params = tys; super_args = a; block = b })
    block) args) guard

-- one resolved member more
abbrev pub with_member : Option (List TypedMember) → Option TypedMember → Option (List TypedMember)
with_member so_far made = option_and_then (λ ms. option_map (λ m. ms ++ m ∷ []) made) so_far
