-- How many locals a statement declares, in all.
use Rattle.std.specs.Prelude.{ℕ, ◌+◌, sum}
use Rattle.jp_ast.specs.declared.stmt.Stmt.{Stmt, fold-Stmt}
use Rattle.jp_ast.specs.declared.stmt.StmtKind.{StmtKind-F}
use Rattle.jp_ast.specs.declared.stmt.StmtKind.TheOpen as s
use Rattle.jp_ast.specs.Counts.{or_zero}

abbrev pub local_step : StmtKind-F ℕ ℕ → ℕ
local_step (s.Block block) = sum block
local_step (s.Local ty name value) = 1
local_step (s.If test first second) = first + or_zero second
local_step (s.While test body) = body
local_step (s.For init test change body) = or_zero init + or_zero change + body
local_step _ = 0

abbrev pub stmt_locals : Stmt → ℕ
stmt_locals = fold-Stmt ℕ ℕ local_step (λ x. x.kind)
