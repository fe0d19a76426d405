-- The faults of a unit, the first of them, and the resolved tree of a unit without one.
use Rattle.std.specs.Prelude.{◌≡◌, ℕ, List, [], ◌∷◌, Bool, false, IsTrue, ◌||◌, ◌&&◌, ◌==◌, nat_lt, Option, Some, None, if◌then◌else◌}
use Rattle.iface_codec.specs.declared.iface.Iface.{Iface}
use Rattle.jp_ast.specs.declared.token.Place.{Place}
use Rattle.jp_ast.specs.declared.decl.SourceUnit.{SourceUnit}
use Rattle.jp_ast.specs.declared.expr.Expr.{Expr}
use Rattle.jp_ast.specs.declared.guard.GuardExpr.{GuardExpr}
use Rattle.jp_meaning.specs.declared.expr.TypedExpr.{TypedExpr}
use Rattle.jp_meaning.specs.declared.guard.TypedGuard.{TypedGuard}
use Rattle.jp_meaning.specs.declared.unit.TypedUnit.{TypedUnit}
use Rattle.jp_pred.specs.Names.{In}
use Rattle.type_rules.specs.declared.fault.TypeFault.{TypeFault}
use Rattle.type_rules.specs.declared.scope.Scope.{Scope}
use Rattle.type_rules.specs.declared.guard_scope.GuardScope.{GuardScope}
use Rattle.type_rules.specs.declared.seen.Role.TheVariants as role
use Rattle.type_rules.specs.Nodes.{Visit, Rule}
use Rattle.type_rules.specs.Expressions.{part}
use Rattle.type_rules.specs.Statements.{tree_of}
use Rattle.type_rules.specs.Guards.{guarded}
use Rattle.type_rules.specs.Table.{all_rules, faults_of}
use Rattle.type_rules.specs.Units.{visits_of, made_unit}

-- THE SET OF FAULTS

-- some node that is visited breaks the rule of that number at the place
pub record HasFault (visits : List Visit) (place : Place) (number : ℕ) : Type 0 where
  pub rule : Rule
  pub is_rule : In rule all_rules
  pub number_is : rule.0 ≡ number
  pub visit : Visit
  pub is_visited : In visit visits
  pub place_is : visit.place ≡ place
  pub breaks : IsTrue (rule.1 visit.node)

-- THE FIRST FAULT

-- the first place is before the other: by lines, and then by columns
abbrev pub place_before : Place → Place → Bool
place_before p q = nat_lt p.line q.line || (p.line == q.line && nat_lt p.col q.col)

-- the first fault is before the other: by places, and then by the numbers of the rules
abbrev pub precedes : TypeFault → TypeFault → Bool
precedes f g = place_before f.place g.place || (f.place.line == g.place.line && f.place.col == g.place.col && nat_lt f.rule g.rule)

-- it is a fault, and none is before it
pub record IsFirstFault (visits : List Visit) (f : TypeFault) : Type 0 where
  pub is_one : HasFault visits f.place f.rule
  pub least : (g : TypeFault) → HasFault visits g.place g.rule → precedes g f ≡ false

-- the earlier of the two
abbrev pub pick : Option TypeFault → TypeFault → TypeFault
pick None f = f
pick (Some best) f = if precedes f best then f else best

-- the first of the best so far and the list
abbrev pub earlier : Option TypeFault → List TypeFault → Option TypeFault
earlier best [] = best
earlier best (f ∷ fs) = earlier (Some (pick best f)) fs

-- the first fault of nodes
abbrev pub first_of : List Visit → Option TypeFault
first_of visits = earlier None (faults_of visits)

-- the first fault of a unit, given the heads of other classes
abbrev pub first_fault : SourceUnit → List Iface → Option TypeFault
first_fault unit others = first_of (visits_of unit others)

-- TYPED

-- nodes without a fault
abbrev pub AreSound : List Visit → Type 0
AreSound visits = (place : Place) (number : ℕ) → HasFault visits place number → ⊥

-- an expression whose value is wanted has no fault, and this is its resolved tree
pub record IsTypedExpr (c : Scope) (x : Expr) (tree : TypedExpr) : Type 0 where
  pub sound : AreSound (part c x role.Operand).visits
  pub resolved : tree_of (part c x role.Operand).seen ≡ Some tree

-- a guard has no fault, and this is its resolved tree
pub record IsTypedGuard (c : GuardScope) (x : GuardExpr) (tree : TypedGuard) : Type 0 where
  pub sound : AreSound (guarded x c).visits
  pub resolved : (guarded x c).made ≡ Some tree

-- the unit has no fault, and this is its resolved tree
pub record IsTyped (unit : SourceUnit) (others : List Iface) (tree : TypedUnit) : Type 0 where
  pub sound : AreSound (visits_of unit others)
  pub resolved : made_unit unit others ≡ Some tree
