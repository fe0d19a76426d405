-- What each form of a guard is printed as, and what it is without its places.
use Rattle.std.proofs.Common.{◌≡◌, ℕ, Bool, List, map, Option, refl, rules}
use Rattle.jp_ast.specs.declared.token.Place.{Place}
use Rattle.jp_ast.specs.declared.guard.PathText.{PathText}
use Rattle.jp_ast.specs.declared.guard.Summand.{Summand}
use Rattle.jp_ast.specs.declared.guard.GuardExpr.{GuardExpr, fold_out-GuardExpr, the_lemmas}
use Rattle.jp_ast.specs.declared.guard.GuardKind.{fold_out-GuardKind}
use Rattle.jp_ast.specs.declared.guard.GuardKind.TheVariants as made
use Rattle.jp_ast.specs.declared.guard.GuardKind.TheOpen as g
use Rattle.jp_grammar.specs.Kinds.{nowhere}
use Rattle.jp_print.specs.Guards.{guard_step, printed_guard}
use Rattle.jp_print.specs.Places.{unplaced_guard, unplaced_path, unplaced_summand}

abbrev pub truth_at : Place → Bool → GuardExpr
truth_at p value = record { place = p; kind = made.Truth value }

abbrev pub not_at : Place → GuardExpr → GuardExpr
not_at p right = record { place = p; kind = made.Not right }

abbrev pub and_at : Place → GuardExpr → GuardExpr → GuardExpr
and_at p left right = record { place = p; kind = made.And left right }

abbrev pub or_at : Place → GuardExpr → GuardExpr → GuardExpr
or_at p left right = record { place = p; kind = made.Or left right }

abbrev pub is_at : Place → PathText → List ℕ → Option (List ℕ) → GuardExpr
is_at p path class alias = record { place = p; kind = made.Is path class alias }

abbrev pub alias_at : Place → PathText → List ℕ → GuardExpr
alias_at p path name = record { place = p; kind = made.Alias path name }

abbrev pub null_at : Place → PathText → Bool → GuardExpr
null_at p path equal = record { place = p; kind = made.NullTest path equal }

abbrev pub flag_at : Place → PathText → GuardExpr
flag_at p path = record { place = p; kind = made.Flag path }

abbrev pub compare_at : Place → List Summand → ℕ → List Summand → GuardExpr
compare_at p left sign right = record { place = p; kind = made.Compare left sign right }

module _ (p : Place) where
  -- ---- printed

  pub printed_truth : (value : Bool) → printed_guard (truth_at p value) ≡ guard_step (g.Truth value)
  unfolding printed_guard
  printed_truth value = rw (fold_out-GuardExpr, fold_out-GuardKind, made.outs-Truth) refl

  pub printed_not : (r : GuardExpr) → printed_guard (not_at p r) ≡ guard_step (g.Not (printed_guard r))
  unfolding printed_guard
  printed_not r = rw (fold_out-GuardExpr, fold_out-GuardKind, made.outs-Not) refl

  pub printed_and : (l r : GuardExpr) → printed_guard (and_at p l r) ≡ guard_step (g.And (printed_guard l) (printed_guard r))
  unfolding printed_guard
  printed_and l r = rw (fold_out-GuardExpr, fold_out-GuardKind, made.outs-And) refl

  pub printed_or : (l r : GuardExpr) → printed_guard (or_at p l r) ≡ guard_step (g.Or (printed_guard l) (printed_guard r))
  unfolding printed_guard
  printed_or l r = rw (fold_out-GuardExpr, fold_out-GuardKind, made.outs-Or) refl

  pub printed_is : (path : PathText) (class : List ℕ) (alias : Option (List ℕ)) → printed_guard (is_at p path class alias) ≡ guard_step (g.Is path class alias)
  unfolding printed_guard
  printed_is path class alias = rw (fold_out-GuardExpr, fold_out-GuardKind, made.outs-Is) refl

  pub printed_alias : (path : PathText) (name : List ℕ) → printed_guard (alias_at p path name) ≡ guard_step (g.Alias path name)
  unfolding printed_guard
  printed_alias path name = rw (fold_out-GuardExpr, fold_out-GuardKind, made.outs-Alias) refl

  pub printed_null : (path : PathText) (equal : Bool) → printed_guard (null_at p path equal) ≡ guard_step (g.NullTest path equal)
  unfolding printed_guard
  printed_null path equal = rw (fold_out-GuardExpr, fold_out-GuardKind, made.outs-NullTest) refl

  pub printed_flag : (path : PathText) → printed_guard (flag_at p path) ≡ guard_step (g.Flag path)
  unfolding printed_guard
  printed_flag path = rw (fold_out-GuardExpr, fold_out-GuardKind, made.outs-Flag) refl

  pub printed_compare : (left : List Summand) (sign : ℕ) (right : List Summand) → printed_guard (compare_at p left sign right) ≡ guard_step (g.Compare left sign right)
  unfolding printed_guard
  printed_compare left sign right = rw (fold_out-GuardExpr, fold_out-GuardKind, made.outs-Compare) refl

  -- ---- without places

  pub unplaced_truth : (value : Bool) → unplaced_guard (truth_at p value) ≡ truth_at nowhere value
  unfolding unplaced_guard
  unplaced_truth value = search (rules, the_lemmas)

  pub unplaced_not : (r : GuardExpr) → unplaced_guard (not_at p r) ≡ not_at nowhere (unplaced_guard r)
  unfolding unplaced_guard
  unplaced_not r = search (rules, the_lemmas)

  pub unplaced_and : (l r : GuardExpr) → unplaced_guard (and_at p l r) ≡ and_at nowhere (unplaced_guard l) (unplaced_guard r)
  unfolding unplaced_guard
  unplaced_and l r = search (rules, the_lemmas)

  pub unplaced_or : (l r : GuardExpr) → unplaced_guard (or_at p l r) ≡ or_at nowhere (unplaced_guard l) (unplaced_guard r)
  unfolding unplaced_guard
  unplaced_or l r = search (rules, the_lemmas)

  pub unplaced_is : (path : PathText) (class : List ℕ) (alias : Option (List ℕ)) → unplaced_guard (is_at p path class alias) ≡ is_at nowhere (unplaced_path path) class alias
  unfolding unplaced_guard
  unplaced_is path class alias = search (rules, the_lemmas)

  pub unplaced_alias : (path : PathText) (name : List ℕ) → unplaced_guard (alias_at p path name) ≡ alias_at nowhere (unplaced_path path) name
  unfolding unplaced_guard
  unplaced_alias path name = search (rules, the_lemmas)

  pub unplaced_null : (path : PathText) (equal : Bool) → unplaced_guard (null_at p path equal) ≡ null_at nowhere (unplaced_path path) equal
  unfolding unplaced_guard
  unplaced_null path equal = search (rules, the_lemmas)

  pub unplaced_flag : (path : PathText) → unplaced_guard (flag_at p path) ≡ flag_at nowhere (unplaced_path path)
  unfolding unplaced_guard
  unplaced_flag path = search (rules, the_lemmas)

  pub unplaced_compare : (left : List Summand) (sign : ℕ) (right : List Summand) → unplaced_guard (compare_at p left sign right) ≡ compare_at nowhere (map unplaced_summand left) sign (map unplaced_summand right)
  unfolding unplaced_guard
  unplaced_compare left sign right = search (rules, the_lemmas)
