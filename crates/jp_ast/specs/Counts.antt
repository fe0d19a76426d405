-- The counts that the limits on a class speak of: the nodes of statements and expressions, and those of a guard.
use Rattle.std.specs.Prelude.{ℕ, ◌+◌, List, Option, Some, None, sum, length}
use Rattle.std.proofs.Common.{sum_by}
use Rattle.jp_ast.specs.declared.expr.Expr.{Expr, fold-Expr}
use Rattle.jp_ast.specs.declared.expr.ExprKind.{ExprKind-F}
use Rattle.jp_ast.specs.declared.expr.ExprKind.TheOpen as expr_kind
use Rattle.jp_ast.specs.declared.stmt.Stmt.{Stmt, fold-Stmt}
use Rattle.jp_ast.specs.declared.stmt.StmtKind.{StmtKind-F}
use Rattle.jp_ast.specs.declared.stmt.StmtKind.TheOpen as stmt_kind
use Rattle.jp_ast.specs.declared.guard.PathText.{PathText}
use Rattle.jp_ast.specs.declared.guard.Summand.{Summand}
use Rattle.jp_ast.specs.declared.guard.GuardExpr.{GuardExpr, fold-GuardExpr}
use Rattle.jp_ast.specs.declared.guard.GuardKind.{GuardKind-F}
use Rattle.jp_ast.specs.declared.guard.GuardKind.TheOpen as guard_kind

-- the number, or 0 where there is none
abbrev pub or_zero : Option ℕ → ℕ
or_zero None = 0
or_zero (Some n) = n

-- the number of what is there, or 0
abbrev pub of_option : {T : Type 0} → (T → ℕ) → Option T → ℕ
of_option f None = 0
of_option f (Some x) = f x

-- an expression is one node beside those of its parts
abbrev pub expr_step : ExprKind-F ℕ ℕ → ℕ
expr_step (expr_kind.Number value hex) = 1
expr_step (expr_kind.Truth value) = 1
expr_step expr_kind.Null = 1
expr_step (expr_kind.Text text) = 1
expr_step expr_kind.This = 1
expr_step (expr_kind.Var name) = 1
expr_step (expr_kind.Unary sign right) = 1 + right
expr_step (expr_kind.Binary sign left right) = 1 + left + right
expr_step (expr_kind.Cond test first second) = 1 + test + first + second
expr_step (expr_kind.Cast class value) = 1 + value
expr_step (expr_kind.InstanceOf value class) = 1 + value
expr_step (expr_kind.Field object name) = 1 + object
expr_step (expr_kind.Index array index) = 1 + array + index
expr_step (expr_kind.Call object name args) = 1 + or_zero object + sum args
expr_step (expr_kind.SuperCall name args) = 1 + sum args
expr_step (expr_kind.New class args) = 1 + sum args
expr_step (expr_kind.NewArray elem size) = 1 + size

-- the nodes of an expression
abbrev pub expr_nodes : Expr → ℕ
expr_nodes = fold-Expr ℕ ℕ expr_step (λ e. e.kind)

-- a statement is one node beside those of its statements and expressions
abbrev pub stmt_step : StmtKind-F ℕ ℕ → ℕ
stmt_step (stmt_kind.Block block) = 1 + sum block
stmt_step stmt_kind.Empty = 1
stmt_step (stmt_kind.Local ty name value) = 1 + of_option expr_nodes value
stmt_step (stmt_kind.If test first second) = 1 + expr_nodes test + first + or_zero second
stmt_step (stmt_kind.While test body) = 1 + expr_nodes test + body
stmt_step (stmt_kind.For init test change body) = 1 + or_zero init + of_option expr_nodes test + or_zero change + body
stmt_step stmt_kind.Break = 1
stmt_step stmt_kind.Continue = 1
stmt_step (stmt_kind.Return value) = 1 + of_option expr_nodes value
stmt_step (stmt_kind.Assign left sign right) = 1 + expr_nodes left + expr_nodes right
stmt_step (stmt_kind.Bump left up) = 1 + expr_nodes left
stmt_step (stmt_kind.Run value) = 1 + expr_nodes value

-- the nodes of a statement
abbrev pub stmt_nodes : Stmt → ℕ
stmt_nodes = fold-Stmt ℕ ℕ stmt_step (λ s. s.kind)

-- the nodes of a member's statements
abbrev pub body_nodes : List Stmt → ℕ
body_nodes block = sum_by stmt_nodes block

-- the steps of a path
abbrev pub path_steps : PathText → ℕ
path_steps path = length path.steps

-- a summand is one node beside the steps of its path
abbrev pub summand_nodes : Summand → ℕ
summand_nodes summand = 1 + of_option path_steps summand.path

-- a guard is one node beside those of its guards, its summands and the steps of its path
abbrev pub guard_step : GuardKind-F ℕ ℕ → ℕ
guard_step (guard_kind.Truth value) = 1
guard_step (guard_kind.Not right) = 1 + right
guard_step (guard_kind.And left right) = 1 + left + right
guard_step (guard_kind.Or left right) = 1 + left + right
guard_step (guard_kind.Is path class alias) = 1 + path_steps path
guard_step (guard_kind.Alias path name) = 1 + path_steps path
guard_step (guard_kind.NullTest path equal) = 1 + path_steps path
guard_step (guard_kind.Flag path) = 1 + path_steps path
guard_step (guard_kind.Compare left sign right) = 1 + sum_by summand_nodes left + sum_by summand_nodes right

-- the nodes of a guard
abbrev pub guard_nodes_of : GuardExpr → ℕ
guard_nodes_of = fold-GuardExpr ℕ ℕ guard_step (λ g. g.kind)
