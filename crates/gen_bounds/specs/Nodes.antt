-- How many nodes a resolved member has: each statement of its block and each expression is one, also those that are given to the
-- constructor of the superclass.
use Rattle.std.specs.Prelude.{ℕ, ◌+◌, List, [], ◌∷◌, map, Option}
use Rattle.std.specs.Option.{option_map_or}
use Rattle.jp_meaning.specs.declared.expr.TypedExpr.{TypedExpr, fold-TypedExpr}
use Rattle.jp_meaning.specs.declared.expr.TypedKind.{TypedKind-F}
use Rattle.jp_meaning.specs.declared.expr.TypedKind.TheOpen as form
use Rattle.jp_meaning.specs.declared.stmt.TypedStmt.{TypedStmt, fold-TypedStmt}
use Rattle.jp_meaning.specs.declared.stmt.TypedStmtKind.{TypedStmtKind-F}
use Rattle.jp_meaning.specs.declared.stmt.TypedStmtKind.TheOpen as stmt
use Rattle.jp_meaning.specs.declared.unit.TypedMember.{TypedMember}

-- all of them together
abbrev pub total : List ℕ → ℕ
total [] = 0
total (n ∷ ns) = n + total ns

-- what may be left out has none then
abbrev pub or_none : {A : Type 0} → (A → ℕ) → Option A → ℕ
or_none count a = option_map_or count a 0

-- the nodes of an expression of a form, by those of its parts
abbrev pub expr_step : TypedKind-F ℕ ℕ → ℕ
expr_step (form.Number value hex) = 1
expr_step (form.Truth value) = 1
expr_step form.Null = 1
expr_step form.This = 1
expr_step (form.Local slot) = 1
expr_step (form.Unary sign right) = 1 + right
expr_step (form.Binary sign left right) = 1 + (left + right)
expr_step (form.Cond test first second) = 1 + (test + (first + second))
expr_step (form.Cast class value) = 1 + value
expr_step (form.InstanceOf value class) = 1 + value
expr_step (form.Field object class name) = 1 + object
expr_step (form.Static class name) = 1
expr_step (form.Length array) = 1 + array
expr_step (form.Index array index) = 1 + (array + index)
expr_step (form.CallVirtual object class is_interface name params args) = 1 + (object + total args)
expr_step (form.CallStatic class name params args) = 1 + total args
expr_step (form.CallSuper class name params args) = 1 + total args
expr_step (form.New class params args) = 1 + total args
expr_step (form.NewArray elem size) = 1 + size
expr_step (form.Print value) = 1 + value
expr_step (form.Show text) = 1
expr_step form.Read = 1

-- the nodes of an expression
abbrev pub expr_nodes : TypedExpr → ℕ
expr_nodes = fold-TypedExpr ℕ ℕ expr_step (λ e. e.kind)

-- the nodes of a statement of a form, by those of its parts
abbrev pub stmt_step : TypedStmtKind-F ℕ ℕ → ℕ
stmt_step (stmt.Block block) = 1 + total block
stmt_step stmt.Empty = 1
stmt_step (stmt.Local slot t value) = 1 + or_none expr_nodes value
stmt_step (stmt.If test first second) = 1 + (expr_nodes test + (first + or_none (λ s. s) second))
stmt_step (stmt.While test body) = 1 + (expr_nodes test + body)
stmt_step (stmt.For init test change body) = 1 + (or_none (λ s. s) init + (or_none expr_nodes test + (or_none (λ s. s) change + body)))
stmt_step stmt.Break = 1
stmt_step stmt.Continue = 1
stmt_step (stmt.Return value) = 1 + or_none expr_nodes value
stmt_step (stmt.Assign left sign right) = 1 + (expr_nodes left + expr_nodes right)
stmt_step (stmt.Bump left up) = 1 + expr_nodes left
stmt_step (stmt.Run value) = 1 + expr_nodes value

-- the nodes of a statement
abbrev pub stmt_nodes : TypedStmt → ℕ
stmt_nodes = fold-TypedStmt ℕ ℕ stmt_step (λ s. s.kind)

-- the nodes of a member
abbrev pub member_nodes : TypedMember → ℕ
member_nodes m = total (map expr_nodes m.super_args) + total (map stmt_nodes m.block)
