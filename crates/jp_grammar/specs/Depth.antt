-- How deep a tree is: the nodes on its longest way down.
use Rattle.std.specs.Prelude.{ℕ, ◌+◌, max, List, [], ◌∷◌, Option, Some, None, map}
use Rattle.jp_ast.specs.declared.expr.Expr.{Expr, fold-Expr}
use Rattle.jp_ast.specs.declared.expr.ExprKind.{ExprKind, ExprKind-F}
use Rattle.jp_ast.specs.declared.expr.ExprKind.TheOpen as expr_kind
use Rattle.jp_ast.specs.declared.stmt.Stmt.{Stmt, fold-Stmt}
use Rattle.jp_ast.specs.declared.stmt.StmtKind.{StmtKind, StmtKind-F}
use Rattle.jp_ast.specs.declared.stmt.StmtKind.TheOpen as stmt_kind
use Rattle.jp_ast.specs.declared.guard.GuardExpr.{GuardExpr, fold-GuardExpr}
use Rattle.jp_ast.specs.declared.guard.GuardKind.{GuardKind, GuardKind-F}
use Rattle.jp_ast.specs.declared.guard.GuardKind.TheOpen as guard_kind

-- the number, or 0 where there is none
abbrev pub or_zero : Option ℕ → ℕ
or_zero None = 0
or_zero (Some n) = n

-- the greatest of the numbers, or 0 where there are none
abbrev pub greatest : List ℕ → ℕ
greatest [] = 0
greatest (n ∷ ns) = max n (greatest ns)

-- an expression is one deeper than its deepest part
abbrev pub depth_step : ExprKind-F ℕ ℕ → ℕ
depth_step (expr_kind.Number value hex) = 1
depth_step (expr_kind.Truth value) = 1
depth_step expr_kind.Null = 1
depth_step (expr_kind.Text text) = 1
depth_step expr_kind.This = 1
depth_step (expr_kind.Var name) = 1
depth_step (expr_kind.Unary sign right) = 1 + right
depth_step (expr_kind.Binary sign left right) = 1 + max left right
depth_step (expr_kind.Cond test first second) = 1 + max test (max first second)
depth_step (expr_kind.Cast class value) = 1 + value
depth_step (expr_kind.InstanceOf value class) = 1 + value
depth_step (expr_kind.Field object name) = 1 + object
depth_step (expr_kind.Index array index) = 1 + max array index
depth_step (expr_kind.Call object name args) = 1 + max (or_zero object) (greatest args)
depth_step (expr_kind.SuperCall name args) = 1 + greatest args
depth_step (expr_kind.New class args) = 1 + greatest args
depth_step (expr_kind.NewArray elem size) = 1 + size

-- the depth of an expression
unfoldable pub depth : Expr → ℕ
depth = fold-Expr ℕ ℕ depth_step (λ e. e.kind)

-- the depth of the deepest of some expressions
abbrev pub depth_of_all : List Expr → ℕ
depth_of_all all = greatest (map depth all)

-- the depth of what is there
abbrev pub depth_of_option : Option Expr → ℕ
depth_of_option None = 0
depth_of_option (Some e) = depth e

-- a statement is one deeper than its deepest statement; expressions don't count
abbrev pub stmt_depth_step : StmtKind-F ℕ ℕ → ℕ
stmt_depth_step (stmt_kind.Block block) = 1 + greatest block
stmt_depth_step stmt_kind.Empty = 1
stmt_depth_step (stmt_kind.Local ty name value) = 1
stmt_depth_step (stmt_kind.If test first second) = 1 + max first (or_zero second)
stmt_depth_step (stmt_kind.While test body) = 1 + body
stmt_depth_step (stmt_kind.For init test change body) = 1 + max (or_zero init) (max (or_zero change) body)
stmt_depth_step stmt_kind.Break = 1
stmt_depth_step stmt_kind.Continue = 1
stmt_depth_step (stmt_kind.Return value) = 1
stmt_depth_step (stmt_kind.Assign left sign right) = 1
stmt_depth_step (stmt_kind.Bump left up) = 1
stmt_depth_step (stmt_kind.Run value) = 1

-- the depth of a statement
unfoldable pub stmt_depth : Stmt → ℕ
stmt_depth = fold-Stmt ℕ ℕ stmt_depth_step (λ s. s.kind)

-- the deepest expression of a statement, those of its statements among them
abbrev pub deepest_step : StmtKind-F ℕ ℕ → ℕ
deepest_step (stmt_kind.Block block) = greatest block
deepest_step stmt_kind.Empty = 0
deepest_step (stmt_kind.Local ty name value) = depth_of_option value
deepest_step (stmt_kind.If test first second) = max (depth test) (max first (or_zero second))
deepest_step (stmt_kind.While test body) = max (depth test) body
deepest_step (stmt_kind.For init test change body) = max (or_zero init) (max (depth_of_option test) (max (or_zero change) body))
deepest_step stmt_kind.Break = 0
deepest_step stmt_kind.Continue = 0
deepest_step (stmt_kind.Return value) = depth_of_option value
deepest_step (stmt_kind.Assign left sign right) = max (depth left) (depth right)
deepest_step (stmt_kind.Bump left up) = depth left
deepest_step (stmt_kind.Run value) = depth value

-- the depth of the deepest expression of a statement
unfoldable pub deepest : Stmt → ℕ
deepest = fold-Stmt ℕ ℕ deepest_step (λ s. s.kind)

-- a guard is one deeper than its deepest guard; paths and summands don't count
abbrev pub guard_depth_step : GuardKind-F ℕ ℕ → ℕ
guard_depth_step (guard_kind.Truth value) = 1
guard_depth_step (guard_kind.Not right) = 1 + right
guard_depth_step (guard_kind.And left right) = 1 + max left right
guard_depth_step (guard_kind.Or left right) = 1 + max left right
guard_depth_step (guard_kind.Is path class alias) = 1
guard_depth_step (guard_kind.Alias path name) = 1
guard_depth_step (guard_kind.NullTest path equal) = 1
guard_depth_step (guard_kind.Flag path) = 1
guard_depth_step (guard_kind.Compare left sign right) = 1

-- the depth of a guard
unfoldable pub guard_depth : GuardExpr → ℕ
guard_depth = fold-GuardExpr ℕ ℕ guard_depth_step (λ g. g.kind)
