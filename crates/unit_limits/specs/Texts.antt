-- The text literals of expressions and statements, in the order of the text, each as the count of its bytes.
use Rattle.std.specs.Prelude.{List, [], ◌∷◌, ◌++◌, length, Option, Some, None}
use Rattle.std.specs.List.{flat_map}
use Rattle.jp_ast.specs.declared.expr.Expr.{Expr, fold-Expr}
use Rattle.jp_ast.specs.declared.expr.ExprKind.{ExprKind-F}
use Rattle.jp_ast.specs.declared.expr.ExprKind.TheOpen as e
use Rattle.jp_ast.specs.declared.stmt.Stmt.{Stmt, fold-Stmt}
use Rattle.jp_ast.specs.declared.stmt.StmtKind.{StmtKind-F}
use Rattle.jp_ast.specs.declared.stmt.StmtKind.TheOpen as s
use Rattle.unit_limits.specs.declared.limits.Limit.TheVariants as limits
use Rattle.unit_limits.specs.Counting.{Count, counted}

-- the counts in what may be left out
abbrev pub in_option : {T : Type 0} → (T → List Count) → Option T → List Count
in_option f None = []
in_option f (Some x) = f x

abbrev pub joined : List (List Count) → List Count
joined all = flat_map (λ counts. counts) all

abbrev pub expr_step : ExprKind-F (List Count) (List Count) → List Count
expr_step (e.Text text) = counted limits.Text (length text) ∷ []
expr_step (e.Unary sign right) = right
expr_step (e.Binary sign left right) = left ++ right
expr_step (e.Cond test first second) = test ++ first ++ second
expr_step (e.Cast class value) = value
expr_step (e.InstanceOf value class) = value
expr_step (e.Field object name) = object
expr_step (e.Index array index) = array ++ index
expr_step (e.Call object name args) = in_option (λ counts. counts) object ++ joined args
expr_step (e.SuperCall name args) = joined args
expr_step (e.New class args) = joined args
expr_step (e.NewArray elem size) = size
expr_step _ = []

-- the texts in an expression
abbrev pub expr_texts : Expr → List Count
expr_texts = fold-Expr (List Count) (List Count) expr_step (λ x. x.kind)

abbrev pub stmt_step : StmtKind-F (List Count) (List Count) → List Count
stmt_step (s.Block block) = joined block
stmt_step (s.Local ty name value) = in_option expr_texts value
stmt_step (s.If test first second) = expr_texts test ++ first ++ in_option (λ counts. counts) second
stmt_step (s.While test body) = expr_texts test ++ body
stmt_step (s.For init test change body) =
    in_option (λ counts. counts) init ++ in_option expr_texts test ++ in_option (λ counts. counts) change ++ body
stmt_step (s.Return value) = in_option expr_texts value
stmt_step (s.Assign left sign right) = expr_texts left ++ expr_texts right
stmt_step (s.Bump left up) = expr_texts left
stmt_step (s.Run value) = expr_texts value
stmt_step _ = []

-- the texts in a statement
abbrev pub stmt_texts : Stmt → List Count
stmt_texts = fold-Stmt (List Count) (List Count) stmt_step (λ x. x.kind)
