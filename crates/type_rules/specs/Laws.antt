-- What holds of faults and resolved trees.
use Rattle.std.specs.Prelude.{◌≡◌, List, Some, None, IsSome, IsTrue, ◌↔◌, ◌++◌}
use Rattle.std.specs.Option.{option_to_list}
use Rattle.jp_pred.specs.Names.{Word}
use Rattle.jp_pred.specs.Hierarchy.{IsBelow, SomeAscends}
use Rattle.iface_codec.specs.declared.iface.Iface.{Iface}
use Rattle.iface_codec.specs.Hierarchy.{hier_of}
use Rattle.jp_ast.specs.declared.expr.Expr.{Expr}
use Rattle.jp_ast.specs.declared.guard.GuardExpr.{GuardExpr}
use Rattle.jp_ast.specs.declared.decl.SourceUnit.{SourceUnit}
use Rattle.type_rules.specs.declared.fault.TypeFault.{TypeFault}
use Rattle.type_rules.specs.declared.scope.Scope.{Scope}
use Rattle.type_rules.specs.declared.guard_scope.GuardScope.{GuardScope}
use Rattle.type_rules.specs.declared.seen.Role.TheVariants as role
use Rattle.type_rules.specs.Heads.{is_under}
use Rattle.type_rules.specs.RulesOfDeclarations.{rule_5}
use Rattle.type_rules.specs.Nodes.{Visit, DeclNode, AtDecl}
use Rattle.type_rules.specs.Assigning.{is_value}
use Rattle.type_rules.specs.Expressions.{part}
use Rattle.type_rules.specs.Guards.{guarded}
use Rattle.type_rules.specs.Units.{made_unit}
use Rattle.type_rules.specs.Typing.{AreSound, IsFirstFault, first_of, first_fault}

-- the first fault of nodes is one of their faults, and none of them is before it
abbrev pub FirstIsFirst : Type 0
FirstIsFirst = (visits : List Visit) (f : TypeFault) → first_of visits ≡ Some f → IsFirstFault visits f

-- nodes without a first fault have no fault
abbrev pub NoneIsNone : Type 0
NoneIsNone = (visits : List Visit) → first_of visits ≡ None → AreSound visits

-- an expression whose value is wanted has one, with its resolved tree, where it has no fault
abbrev pub SoundIsSeen : Type 0
SoundIsSeen = (c : Scope) (x : Expr) → first_of (part c x role.Operand).visits ≡ None → IsTrue (is_value (part c x role.Operand).seen)

-- a guard without a fault has a resolved tree
abbrev pub SoundIsGuarded : Type 0
SoundIsGuarded = (c : GuardScope) (x : GuardExpr) → first_of (guarded x c).visits ≡ None → IsSome (guarded x c).made

-- a unit without a fault has a resolved tree
abbrev pub SoundIsTyped : Type 0
SoundIsTyped = (unit : SourceUnit) (others : List Iface) → first_fault unit others ≡ None → IsSome (made_unit unit others)

-- the supertypes that are reached are the closure of those that are named, in any hierarchy, one with a cycle too
abbrev pub UnderIsBelow : Type 0
UnderIsBelow = (heads : List Iface) (lower upper : Word) → IsTrue (is_under heads lower upper) ↔ IsBelow (hier_of heads) lower upper

-- rule 5 is broken exactly where a declaration is above itself
abbrev pub AboveItself : Type 0
AboveItself = (d : DeclNode) → IsTrue (rule_5 (AtDecl d)) ↔ SomeAscends (hier_of d.heads) (option_to_list d.decl.superclass ++ d.decl.interfaces) d.decl.name
