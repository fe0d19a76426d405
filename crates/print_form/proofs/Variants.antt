-- What the variants of a tree hold is told by the tree.
use Rattle.std.proofs.Common.{◌≡◌, ℕ, Bool, List, Option, sym, ap, ◌∙◌}
use Rattle.jp_ast.specs.declared.expr.Expr.{Expr}
use Rattle.jp_ast.specs.declared.expr.ExprKind.{ExprKind, out-ExprKind}
use Rattle.jp_ast.specs.declared.expr.ExprKind.TheVariants as expr
use Rattle.jp_ast.specs.declared.expr.ExprKind.TheOpen as open_expr
use Rattle.jp_ast.specs.declared.stmt.StmtKind.{StmtKind, out-StmtKind}
use Rattle.jp_ast.specs.declared.stmt.StmtKind.TheVariants as stmt
use Rattle.jp_ast.specs.declared.stmt.StmtKind.TheOpen as open_stmt

module _ (k : ExprKind) where
  pub number_is : (n m : ℕ) (h g : Bool) → k ≡ expr.Number n h → k ≡ expr.Number m g → (n ≡ m) × (h ≡ g)
  number_is n m h g a b =
      let same : open_expr.Number n h ≡ open_expr.Number m g = sym (expr.outs-Number n h) ∙ ap out-ExprKind (sym a ∙ b) ∙ expr.outs-Number m g in (cc, cc)

  pub unary_is : (n m : ℕ) (x y : Expr) → k ≡ expr.Unary n x → k ≡ expr.Unary m y → (n ≡ m) × (x ≡ y)
  unary_is n m x y a b =
      let same : open_expr.Unary n x ≡ open_expr.Unary m y = sym (expr.outs-Unary n x) ∙ ap out-ExprKind (sym a ∙ b) ∙ expr.outs-Unary m y in (cc, cc)

  pub no_unary : (n m : ℕ) (h : Bool) (x : Expr) → k ≡ expr.Number n h → k ≡ expr.Unary m x → ⊥
  no_unary n m h x a b =
      let same : open_expr.Number n h ≡ open_expr.Unary m x = sym (expr.outs-Number n h) ∙ ap out-ExprKind (sym a ∙ b) ∙ expr.outs-Unary m x in cc

  pub var_is : (n m : List ℕ) → k ≡ expr.Var n → k ≡ expr.Var m → n ≡ m
  var_is n m a b =
      let same : open_expr.Var n ≡ open_expr.Var m = sym (expr.outs-Var n) ∙ ap out-ExprKind (sym a ∙ b) ∙ expr.outs-Var m in cc

  pub call_is : (o p : Option Expr) (n m : List ℕ) (xs ys : List Expr) → k ≡ expr.Call o n xs → k ≡ expr.Call p m ys → (o ≡ p) × (n ≡ m) × (xs ≡ ys)
  call_is o p n m xs ys a b =
      let same : open_expr.Call o n xs ≡ open_expr.Call p m ys = sym (expr.outs-Call o n xs) ∙ ap out-ExprKind (sym a ∙ b) ∙ expr.outs-Call p m ys in (cc, cc, cc)

module _ (k : StmtKind) where
  pub run_is : (x y : Expr) → k ≡ stmt.Run x → k ≡ stmt.Run y → x ≡ y
  run_is x y a b =
      let same : open_stmt.Run x ≡ open_stmt.Run y = sym (stmt.outs-Run x) ∙ ap out-StmtKind (sym a ∙ b) ∙ stmt.outs-Run y in cc
