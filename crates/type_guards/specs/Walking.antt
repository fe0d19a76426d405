-- Guards that are walked, with the scope and the first fault so far.
use Rattle.std.specs.Prelude.{◌≡◌, ◌++◌, ℕ, List, [], take, Bool, Option}
use Rattle.std.specs.List.{flat_map}
use Rattle.std.specs.Option.{option_map, option_and_then}
use Rattle.jp_ast.specs.declared.token.Place.{Place}
use Rattle.jp_ast.specs.declared.guard.GuardExpr.{GuardExpr}
use Rattle.jp_ast.specs.declared.guard.Summand.{Summand}
use Rattle.jp_meaning.specs.declared.guard.TypedGuard.{TypedGuard}
use Rattle.jp_meaning.specs.declared.guard.TypedGuardKind.TheVariants as made
use Rattle.jp_meaning.specs.declared.guard.TypedSummand.{TypedSummand}
use Rattle.type_rules.specs.declared.fault.TypeFault.{TypeFault}
use Rattle.type_rules.specs.declared.guard_scope.GuardScope.{GuardScope}
use Rattle.type_rules.specs.declared.guard_scope.Narrowed.{Narrowed}
use Rattle.type_rules.specs.Guards.{guarded, guard_at, summands_in, summand_visits}
use Rattle.type_rules.specs.Table.{faults_of}
use Rattle.type_rules.specs.Typing.{earlier}

-- A guard is walked: the scope to its right, its resolved tree, where it has no fault, and the first fault so far, with its own
pub record Walks (x : GuardExpr) (c d : GuardScope) (old new : Option TypeFault) (result : Option TypedGuard) : Type 0 where
  pub after : d ≡ (guarded x c).after
  pub made_is : result ≡ (guarded x c).made
  pub first : new ≡ earlier old (faults_of (guarded x c).visits)

-- All stays but the aliases, and tests are added alone
pub record Keeps (c d : GuardScope) : Type 0 where
  pub heads : d.heads ≡ c.heads
  pub class : d.class ≡ c.class
  pub params : d.params ≡ c.params
  pub outermost : d.is_outermost ≡ c.is_outermost
  pub more : List Narrowed
  pub tests : d.tests ≡ c.tests ++ more

-- with so many tests, reached through `&&` alone or not
abbrev pub left_to : GuardScope → ℕ → Bool → GuardScope
left_to c mark outermost = record c { tests = take mark c.tests; is_outermost = outermost }

-- a comparison, where its sides have no fault
abbrev pub compared : Place → Option (List TypedSummand) → ℕ → Option (List TypedSummand) → Option TypedGuard
compared p left n right = option_map (guard_at p) (option_and_then (λ l. option_map (λ r. made.Compare l n r) right) left)

-- A comparison is walked
pub record Compares (c : GuardScope) (p : Place) (left : List Summand) (n : ℕ) (right : List Summand) (old new : Option TypeFault) (result : Option TypedGuard) : Type 0 where
  pub made_is : result ≡ compared p (summands_in c [] left) n (summands_in c [] right)
  pub first : new ≡ earlier old (faults_of (flat_map (summand_visits c) left ++ flat_map (summand_visits c) right))
