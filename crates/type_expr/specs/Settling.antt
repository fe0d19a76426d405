-- What is said of a node, or of an expression, and of the first fault so far.
use Rattle.std.specs.Prelude.{◌≡◌, List, map, Bool, Option, if◌then◌else◌}
use Rattle.jp_ast.specs.declared.expr.Expr.{Expr}
use Rattle.type_rules.specs.declared.fault.TypeFault.{TypeFault}
use Rattle.type_rules.specs.declared.scope.Scope.{Scope}
use Rattle.type_rules.specs.declared.seen.Role.{Role}
use Rattle.type_rules.specs.declared.seen.Seen.{Seen}
use Rattle.type_rules.specs.declared.seen.Seen.TheVariants as seen
use Rattle.type_rules.specs.Nodes.{ExprNode, AtExpr}
use Rattle.type_rules.specs.Table.{own_faults, faults_of}
use Rattle.type_rules.specs.Expressions.{Part, in_role, seen_all, visits_all, resolved, part}
use Rattle.type_rules.specs.Typing.{earlier}
use Rattle.type_heads.specs.Faults.{is_none_of}
use Rattle.type_expr.specs.declared.spot.Spot.{Spot}

-- the faults of a node
unfoldable pub faults_at : Scope → Spot → ExprNode → List TypeFault
faults_at s at node = own_faults at.place (AtExpr s at.role node)

-- what is seen of a node: it is Faulty where it has a fault
abbrev pub seen_at : Scope → Spot → ExprNode → Seen
seen_at s at node = if is_none_of (faults_at s at node) then resolved s at.place node else seen.Faulty

-- The rules are looked at: whether the node breaks none, and the first fault so far, with its own
pub record Looks (s : Scope) (at : Spot) (node : ExprNode) (old new : Option TypeFault) (kept : Bool) : Type 0 where
  pub sound : kept ≡ is_none_of (faults_at s at node)
  pub first : new ≡ earlier old (faults_at s at node)

-- The node is settled: what is seen of it, and the first fault so far, with its own
pub record Settles (s : Scope) (at : Spot) (node : ExprNode) (old new : Option TypeFault) (found : Seen) : Type 0 where
  pub seen : found ≡ seen_at s at node
  pub first : new ≡ earlier old (faults_at s at node)

-- The expression is seen so in the role, and the first fault so far takes in its own
pub record Sees (s : Scope) (r : Role) (x : Expr) (old new : Option TypeFault) (found : Seen) : Type 0 where
  pub seen : found ≡ (part s x r).seen
  pub first : new ≡ earlier old (faults_of (part s x r).visits)

-- several expressions in one role
abbrev pub parts_in : Scope → Role → List Expr → List Part
parts_in s r xs = in_role r (map (part s) xs)

-- The expressions are seen so in the role, one after the other
pub record SeesAll (s : Scope) (r : Role) (xs : List Expr) (old new : Option TypeFault) (found : List Seen) : Type 0 where
  pub seen : found ≡ seen_all (parts_in s r xs)
  pub first : new ≡ earlier old (faults_of (visits_all (parts_in s r xs)))
