-- The classes that expressions, statements and guards name in type positions, in the order of the text.
use Rattle.std.specs.Prelude.{List, [], ◌++◌}
use Rattle.std.specs.List.{flat_map}
use Rattle.jp_ast.specs.declared.token.Place.{Place}
use Rattle.jp_ast.specs.declared.expr.Expr.{Expr, fold-Expr}
use Rattle.jp_ast.specs.declared.expr.ExprKind.{ExprKind-F}
use Rattle.jp_ast.specs.declared.expr.ExprKind.TheOpen as e
use Rattle.jp_ast.specs.declared.stmt.Stmt.{Stmt, fold-Stmt}
use Rattle.jp_ast.specs.declared.stmt.StmtKind.{StmtKind-F}
use Rattle.jp_ast.specs.declared.stmt.StmtKind.TheOpen as s
use Rattle.jp_ast.specs.declared.guard.GuardExpr.{GuardExpr, fold-GuardExpr}
use Rattle.jp_ast.specs.declared.guard.GuardKind.{GuardKind-F}
use Rattle.jp_ast.specs.declared.guard.GuardKind.TheOpen as g
use Rattle.own_names.specs.Naming.{Named, alone, type_names, in_option}

abbrev pub joined : List (List Named) → List Named
joined all = flat_map (λ names. names) all

-- EXPRESSIONS: what the expression names itself stands at its own place

abbrev pub expr_step : ExprKind-F (Place → List Named) (List Named) → Place → List Named
expr_step (e.Unary sign right) p = right
expr_step (e.Binary sign left right) p = left ++ right
expr_step (e.Cond test first second) p = test ++ first ++ second
expr_step (e.Cast class value) p = alone p class ++ value
expr_step (e.InstanceOf value class) p = value ++ alone p class
expr_step (e.Field object name) p = object
expr_step (e.Index array index) p = array ++ index
expr_step (e.Call object name args) p = in_option (λ names. names) object ++ joined args
expr_step (e.SuperCall name args) p = joined args
expr_step (e.New class args) p = alone p class ++ joined args
expr_step (e.NewArray elem size) p = type_names p elem ++ size
expr_step _ p = []

abbrev pub expr_names : Expr → List Named
expr_names = fold-Expr (Place → List Named) (List Named) expr_step (λ x. x.kind x.place)

-- STATEMENTS: the type of a local stands at the statement's place

abbrev pub stmt_step : StmtKind-F (Place → List Named) (List Named) → Place → List Named
stmt_step (s.Block block) p = joined block
stmt_step (s.Local ty name value) p = type_names p ty ++ in_option expr_names value
stmt_step (s.If test first second) p = expr_names test ++ first ++ in_option (λ names. names) second
stmt_step (s.While test body) p = expr_names test ++ body
stmt_step (s.For init test change body) p =
    in_option (λ names. names) init ++ in_option expr_names test ++ in_option (λ names. names) change ++ body
stmt_step (s.Return value) p = in_option expr_names value
stmt_step (s.Assign left sign right) p = expr_names left ++ expr_names right
stmt_step (s.Bump left up) p = expr_names left
stmt_step (s.Run value) p = expr_names value
stmt_step _ p = []

abbrev pub stmt_names : Stmt → List Named
stmt_names = fold-Stmt (Place → List Named) (List Named) stmt_step (λ x. x.kind x.place)

-- GUARDS: the class of a test stands at the place of the test

abbrev pub guard_step : GuardKind-F (Place → List Named) (List Named) → Place → List Named
guard_step (g.Not right) p = right
guard_step (g.And left right) p = left ++ right
guard_step (g.Or left right) p = left ++ right
guard_step (g.Is path class alias) p = alone p class
guard_step _ p = []

abbrev pub guard_names : GuardExpr → List Named
guard_names = fold-GuardExpr (Place → List Named) (List Named) guard_step (λ x. x.kind x.place)
