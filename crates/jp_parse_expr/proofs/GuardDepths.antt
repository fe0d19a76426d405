-- The depth of each node of a guard, by the depths of its parts.
use Rattle.std.proofs.Common.{◌≡◌, ℕ, ◌+◌, ◌≤◌, zero, suc, max, List, [], ◌∷◌, Option, Bool, refl, sym, ap, ◌∙◌, arith, rules}
use Rattle.jp_ast.specs.declared.token.Place.{Place}
use Rattle.jp_ast.specs.declared.guard.PathText.{PathText}
use Rattle.jp_ast.specs.declared.guard.Summand.{Summand}
use Rattle.jp_ast.specs.declared.guard.GuardExpr.{GuardExpr, fold-GuardExpr, fold_out-GuardExpr, the_lemmas}
use Rattle.jp_ast.specs.declared.guard.GuardKind.{GuardKind, GuardKind-F, fold_out-GuardKind}
use Rattle.jp_ast.specs.declared.guard.GuardKind.TheOpen as guard_kind
use Rattle.jp_ast.specs.declared.guard.GuardKind.TheVariants as made
use Rattle.jp_grammar.specs.Depth.{guard_depth, guard_depth_step}
use Rattle.jp_grammar.specs.Guards.{truth_guard, not_at, joined_at}
use Rattle.jp_parse_expr.specs.GuardParts.{guard_at}

pub depth_truth : (p : Place) (b : Bool) → guard_depth (truth_guard p b) ≡ 1
unfolding guard_depth
depth_truth p b = search (rules, the_lemmas)

pub depth_not : (p : Place) (g : GuardExpr) → guard_depth (not_at p g) ≡ 1 + guard_depth g
unfolding guard_depth
depth_not p g = search (rules, the_lemmas)

pub depth_joined : (p : Place) (n : ℕ) (l r : GuardExpr) → guard_depth (joined_at p n l r) ≡ 1 + max (guard_depth l) (guard_depth r)
unfolding guard_depth
depth_joined p zero l r = search (rules, the_lemmas)
depth_joined p (suc n) l r = search (rules, the_lemmas)

pub depth_class : (at : Place) (p : PathText) (class : List ℕ) (alias : Option (List ℕ)) → guard_depth (guard_at at (made.Is p class alias)) ≡ 1
unfolding guard_depth
depth_class at p class alias = search (rules, the_lemmas)

pub depth_alias : (at : Place) (p : PathText) (name : List ℕ) → guard_depth (guard_at at (made.Alias p name)) ≡ 1
unfolding guard_depth
depth_alias at p name = search (rules, the_lemmas)

pub depth_null : (at : Place) (p : PathText) (equal : Bool) → guard_depth (guard_at at (made.NullTest p equal)) ≡ 1
unfolding guard_depth
depth_null at p equal = search (rules, the_lemmas)

pub depth_flag : (at : Place) (p : PathText) → guard_depth (guard_at at (made.Flag p)) ≡ 1
unfolding guard_depth
depth_flag at p = search (rules, the_lemmas)

pub depth_compared : (at : Place) (l : List Summand) (b : ℕ) (r : List Summand) → guard_depth (guard_at at (made.Compare l b r)) ≡ 1
unfolding guard_depth
depth_compared at l b r = search (rules, the_lemmas)

step_positive : (x : GuardKind-F ℕ ℕ) → 1 ≤ guard_depth_step x
step_positive (guard_kind.Truth value) = omega arith
step_positive (guard_kind.Not right) = omega arith
step_positive (guard_kind.And left right) = omega arith
step_positive (guard_kind.Or left right) = omega arith
step_positive (guard_kind.Is path class alias) = omega arith
step_positive (guard_kind.Alias path name) = omega arith
step_positive (guard_kind.NullTest path equal) = omega arith
step_positive (guard_kind.Flag path) = omega arith
step_positive (guard_kind.Compare left sign right) = omega arith

pub depth_positive : (g : GuardExpr) → 1 ≤ guard_depth g
unfolding guard_depth
depth_positive g = rw (fold_out-GuardExpr, fold_out-GuardKind) (step_positive _)
