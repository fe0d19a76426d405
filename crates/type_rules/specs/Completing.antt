-- Which statements can complete.
use Rattle.std.specs.Prelude.{List, Bool, true, false, not, ◌||◌, Option, Some, None}
use Rattle.std.specs.List.{list_any, list_all}
use Rattle.jp_ast.specs.declared.expr.Expr.{Expr}
use Rattle.jp_ast.specs.declared.stmt.Stmt.{Stmt, fold-Stmt}
use Rattle.jp_ast.specs.declared.stmt.StmtKind.{StmtKind-F}
use Rattle.jp_ast.specs.declared.stmt.StmtKind.TheOpen as s
use Rattle.type_rules.specs.Written.{form_of, is_true}

-- whether a statement can complete, and whether it holds a `break` that isn't of a loop in it
pub record Leaves : Type 0 where
  pub completes : Bool
  pub breaks : Bool

-- a test that is left out or is `true`
abbrev pub is_endless : Option Expr → Bool
is_endless None = true
is_endless (Some test) = is_true (form_of test)

-- a statement that may be left out completes where it is
abbrev pub completes_or_none : Option Leaves → Bool
completes_or_none None = true
completes_or_none (Some l) = l.completes

abbrev pub breaks_or_none : Option Leaves → Bool
breaks_or_none None = false
breaks_or_none (Some l) = l.breaks

-- a loop without end completes by a `break` of its own alone
abbrev pub loop_leaves : Bool → Leaves → Leaves
loop_leaves endless body = record { completes = not endless || body.breaks; breaks = false }

abbrev pub leaves_step : StmtKind-F Leaves Leaves → Leaves
leaves_step (s.Block all) = record { completes = list_all (λ l. l.completes) all; breaks = list_any (λ l. l.breaks) all }
leaves_step (s.If test first second) =
    record { completes = first.completes || completes_or_none second; breaks = first.breaks || breaks_or_none second }
leaves_step (s.While test body) = loop_leaves (is_true (form_of test)) body
leaves_step (s.For init test change body) = loop_leaves (is_endless test) body
leaves_step s.Break = record { completes = false; breaks = true }
leaves_step s.Continue = record { completes = false; breaks = false }
leaves_step (s.Return value) = record { completes = false; breaks = false }
leaves_step _ = record { completes = true; breaks = false }

abbrev pub leaves : Stmt → Leaves
leaves = fold-Stmt Leaves Leaves leaves_step (λ x. x.kind)

-- statements one after another can complete
abbrev pub can_complete : List Stmt → Bool
can_complete block = list_all (λ x. (leaves x).completes) block
