-- What each form of a statement is printed as, and what it is without its places.
use Rattle.std.proofs.Common.{◌≡◌, ℕ, Bool, List, map, Option, Some, None, refl, rules}
use Rattle.std.specs.Prelude.{option_map}
use Rattle.jp_pred.specs.declared.ty.Ty.{Ty}
use Rattle.jp_ast.specs.declared.token.Place.{Place}
use Rattle.jp_ast.specs.declared.expr.Expr.{Expr}
use Rattle.jp_ast.specs.declared.stmt.Stmt.{Stmt, fold_out-Stmt, the_lemmas}
use Rattle.jp_ast.specs.declared.stmt.StmtKind.{fold_out-StmtKind}
use Rattle.jp_ast.specs.declared.stmt.StmtKind.TheVariants as made
use Rattle.jp_ast.specs.declared.stmt.StmtKind.TheOpen as s
use Rattle.jp_grammar.specs.Kinds.{nowhere}
use Rattle.jp_print.specs.Statements.{stmt_step, printed_stmt}
use Rattle.jp_print.specs.Places.{unplaced, unplaced_stmt}

abbrev pub block_at : Place → List Stmt → Stmt
block_at p block = record { place = p; kind = made.Block block }

abbrev pub empty_at : Place → Stmt
empty_at p = record { place = p; kind = made.Empty }

abbrev pub local_at : Place → Ty → List ℕ → Option Expr → Stmt
local_at p ty name value = record { place = p; kind = made.Local ty name value }

abbrev pub if_at : Place → Expr → Stmt → Option Stmt → Stmt
if_at p test first second = record { place = p; kind = made.If test first second }

abbrev pub while_at : Place → Expr → Stmt → Stmt
while_at p test body = record { place = p; kind = made.While test body }

abbrev pub for_at : Place → Option Stmt → Option Expr → Option Stmt → Stmt → Stmt
for_at p init test change body = record { place = p; kind = made.For init test change body }

abbrev pub break_at : Place → Stmt
break_at p = record { place = p; kind = made.Break }

abbrev pub continue_at : Place → Stmt
continue_at p = record { place = p; kind = made.Continue }

abbrev pub return_at : Place → Option Expr → Stmt
return_at p value = record { place = p; kind = made.Return value }

abbrev pub assign_at : Place → Expr → ℕ → Expr → Stmt
assign_at p left sign right = record { place = p; kind = made.Assign left sign right }

abbrev pub bump_at : Place → Expr → Bool → Stmt
bump_at p left up = record { place = p; kind = made.Bump left up }

abbrev pub run_at : Place → Expr → Stmt
run_at p value = record { place = p; kind = made.Run value }

module _ (p : Place) where
  -- ---- printed

  pub printed_block : (block : List Stmt) → printed_stmt (block_at p block) ≡ stmt_step (s.Block (map printed_stmt block))
  unfolding printed_stmt
  printed_block block = rw (fold_out-Stmt, fold_out-StmtKind, made.outs-Block) refl

  pub printed_empty : printed_stmt (empty_at p) ≡ stmt_step s.Empty
  unfolding printed_stmt
  printed_empty = rw (fold_out-Stmt, fold_out-StmtKind, made.outs-Empty) refl

  pub printed_local : (ty : Ty) (name : List ℕ) (value : Option Expr) → printed_stmt (local_at p ty name value) ≡ stmt_step (s.Local ty name value)
  unfolding printed_stmt
  printed_local ty name value = rw (fold_out-Stmt, fold_out-StmtKind, made.outs-Local) refl

  pub printed_if : (test : Expr) (first : Stmt) (second : Option Stmt) → printed_stmt (if_at p test first second) ≡ stmt_step (s.If test (printed_stmt first) (option_map printed_stmt second))
  unfolding printed_stmt
  printed_if test first None = rw (fold_out-Stmt, fold_out-StmtKind, made.outs-If) refl
  printed_if test first (Some second) = rw (fold_out-Stmt, fold_out-StmtKind, made.outs-If) refl

  pub printed_while : (test : Expr) (body : Stmt) → printed_stmt (while_at p test body) ≡ stmt_step (s.While test (printed_stmt body))
  unfolding printed_stmt
  printed_while test body = rw (fold_out-Stmt, fold_out-StmtKind, made.outs-While) refl

  pub printed_for : (init : Option Stmt) (test : Option Expr) (change : Option Stmt) (body : Stmt) →
      printed_stmt (for_at p init test change body) ≡ stmt_step (s.For (option_map printed_stmt init) test (option_map printed_stmt change) (printed_stmt body))
  unfolding printed_stmt
  printed_for None test None body = rw (fold_out-Stmt, fold_out-StmtKind, made.outs-For) refl
  printed_for None test (Some change) body = rw (fold_out-Stmt, fold_out-StmtKind, made.outs-For) refl
  printed_for (Some init) test None body = rw (fold_out-Stmt, fold_out-StmtKind, made.outs-For) refl
  printed_for (Some init) test (Some change) body = rw (fold_out-Stmt, fold_out-StmtKind, made.outs-For) refl

  pub printed_break : printed_stmt (break_at p) ≡ stmt_step s.Break
  unfolding printed_stmt
  printed_break = rw (fold_out-Stmt, fold_out-StmtKind, made.outs-Break) refl

  pub printed_continue : printed_stmt (continue_at p) ≡ stmt_step s.Continue
  unfolding printed_stmt
  printed_continue = rw (fold_out-Stmt, fold_out-StmtKind, made.outs-Continue) refl

  pub printed_return : (value : Option Expr) → printed_stmt (return_at p value) ≡ stmt_step (s.Return value)
  unfolding printed_stmt
  printed_return value = rw (fold_out-Stmt, fold_out-StmtKind, made.outs-Return) refl

  pub printed_assign : (left : Expr) (sign : ℕ) (right : Expr) → printed_stmt (assign_at p left sign right) ≡ stmt_step (s.Assign left sign right)
  unfolding printed_stmt
  printed_assign left sign right = rw (fold_out-Stmt, fold_out-StmtKind, made.outs-Assign) refl

  pub printed_bump : (left : Expr) (up : Bool) → printed_stmt (bump_at p left up) ≡ stmt_step (s.Bump left up)
  unfolding printed_stmt
  printed_bump left up = rw (fold_out-Stmt, fold_out-StmtKind, made.outs-Bump) refl

  pub printed_run : (value : Expr) → printed_stmt (run_at p value) ≡ stmt_step (s.Run value)
  unfolding printed_stmt
  printed_run value = rw (fold_out-Stmt, fold_out-StmtKind, made.outs-Run) refl

  -- ---- without places

  pub unplaced_block : (block : List Stmt) → unplaced_stmt (block_at p block) ≡ block_at nowhere (map unplaced_stmt block)
  unfolding unplaced_stmt
  unplaced_block block = search (rules, the_lemmas)

  pub unplaced_empty : unplaced_stmt (empty_at p) ≡ empty_at nowhere
  unfolding unplaced_stmt
  unplaced_empty = search (rules, the_lemmas)

  pub unplaced_local : (ty : Ty) (name : List ℕ) (value : Option Expr) → unplaced_stmt (local_at p ty name value) ≡ local_at nowhere ty name (option_map unplaced value)
  unfolding unplaced_stmt
  unplaced_local ty name value = search (rules, the_lemmas)

  pub unplaced_if : (test : Expr) (first : Stmt) (second : Option Stmt) → unplaced_stmt (if_at p test first second) ≡ if_at nowhere (unplaced test) (unplaced_stmt first) (option_map unplaced_stmt second)
  unfolding unplaced_stmt
  unplaced_if test first None = search (rules, the_lemmas)
  unplaced_if test first (Some second) = search (rules, the_lemmas)

  pub unplaced_while : (test : Expr) (body : Stmt) → unplaced_stmt (while_at p test body) ≡ while_at nowhere (unplaced test) (unplaced_stmt body)
  unfolding unplaced_stmt
  unplaced_while test body = search (rules, the_lemmas)

  pub unplaced_for : (init : Option Stmt) (test : Option Expr) (change : Option Stmt) (body : Stmt) →
      unplaced_stmt (for_at p init test change body) ≡ for_at nowhere (option_map unplaced_stmt init) (option_map unplaced test) (option_map unplaced_stmt change) (unplaced_stmt body)
  unfolding unplaced_stmt
  unplaced_for None test None body = search (rules, the_lemmas)
  unplaced_for None test (Some change) body = search (rules, the_lemmas)
  unplaced_for (Some init) test None body = search (rules, the_lemmas)
  unplaced_for (Some init) test (Some change) body = search (rules, the_lemmas)

  pub unplaced_break : unplaced_stmt (break_at p) ≡ break_at nowhere
  unfolding unplaced_stmt
  unplaced_break = search (rules, the_lemmas)

  pub unplaced_continue : unplaced_stmt (continue_at p) ≡ continue_at nowhere
  unfolding unplaced_stmt
  unplaced_continue = search (rules, the_lemmas)

  pub unplaced_return : (value : Option Expr) → unplaced_stmt (return_at p value) ≡ return_at nowhere (option_map unplaced value)
  unfolding unplaced_stmt
  unplaced_return value = search (rules, the_lemmas)

  pub unplaced_assign : (left : Expr) (sign : ℕ) (right : Expr) → unplaced_stmt (assign_at p left sign right) ≡ assign_at nowhere (unplaced left) sign (unplaced right)
  unfolding unplaced_stmt
  unplaced_assign left sign right = search (rules, the_lemmas)

  pub unplaced_bump : (left : Expr) (up : Bool) → unplaced_stmt (bump_at p left up) ≡ bump_at nowhere (unplaced left) up
  unfolding unplaced_stmt
  unplaced_bump left up = search (rules, the_lemmas)

  pub unplaced_run : (value : Expr) → unplaced_stmt (run_at p value) ≡ run_at nowhere (unplaced value)
  unfolding unplaced_stmt
  unplaced_run value = search (rules, the_lemmas)
