-- Statements that are walked, with the first fault so far.
use Rattle.std.specs.Prelude.{◌≡◌, List, [], map, Option, Some}
use Rattle.std.specs.Option.{option_map}
use Rattle.jp_ast.specs.declared.expr.Expr.{Expr}
use Rattle.jp_ast.specs.declared.stmt.Stmt.{Stmt}
use Rattle.jp_meaning.specs.declared.stmt.TypedStmt.{TypedStmt}
use Rattle.type_rules.specs.declared.fault.TypeFault.{TypeFault}
use Rattle.type_rules.specs.declared.scope.Scope.{Scope}
use Rattle.type_rules.specs.declared.seen.Seen.{Seen}
use Rattle.type_rules.specs.Table.{faults_of}
use Rattle.type_rules.specs.Statements.{waiting, seen_option, visits_option, flow_visits, visits_along, made_along, made_option, flow}
use Rattle.type_rules.specs.Typing.{earlier}

-- An expression that may be left out is seen so, and the first fault so far takes in its own
pub record SeesOption (c : Scope) (x : Option Expr) (old new : Option TypeFault) (found : Option Seen) : Type 0 where
  pub seen : found ≡ seen_option c (option_map waiting x)
  pub first : new ≡ earlier old (faults_of (visits_option c (option_map waiting x)))

-- A statement is walked in the scope: its resolved tree, where it has no fault, and the first fault so far, with its own
pub record Walks (c : Scope) (x : Stmt) (old new : Option TypeFault) (made : Option TypedStmt) : Type 0 where
  pub made_is : made ≡ (flow x c).made
  pub first : new ≡ earlier old (faults_of (flow x c).visits)

-- a statement that may be left out
pub record WalksOption (c : Scope) (x : Option Stmt) (old new : Option TypeFault) (made : Option (Option TypedStmt)) : Type 0 where
  pub made_is : made ≡ made_option (option_map flow x) c
  pub first : new ≡ earlier old (faults_of (flow_visits (option_map flow x) c))

-- statements one after another, each in the scope that the one before leaves
pub record WalksAll (c : Scope) (xs : List Stmt) (old new : Option TypeFault) (made : Option (List TypedStmt)) : Type 0 where
  pub made_is : made ≡ made_along (Some []) (map flow xs) c
  pub first : new ≡ earlier old (faults_of (visits_along (map flow xs) c))
