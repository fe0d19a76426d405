-- Folds over trees don't see places.
use Rattle.std.proofs.Common.{◌≡◌, ℕ, Bool, true, false, List, [], ◌∷◌, ◌++◌, map, Option, Some, None, refl, sym, ap, ◌∙◌, subst}
use Rattle.std.specs.Prelude.{option_map}
use Rattle.jp_ast.specs.declared.expr.Expr.{Expr, fold-Expr}
use Rattle.jp_ast.specs.declared.expr.ExprKind.{ExprKind, ExprKind-F, roll-ExprKind}
use Rattle.jp_ast.specs.declared.expr.ExprKind.TheFolds.{ind-Expr, fold-ExprKind, fold-roll-Expr, fold-roll-ExprKind, map-ExprKind}
use Rattle.jp_ast.specs.declared.expr.ExprKind.TheOpen as e
use Rattle.jp_ast.specs.declared.guard.GuardExpr.{GuardExpr, fold-GuardExpr}
use Rattle.jp_ast.specs.declared.guard.GuardKind.{GuardKind, GuardKind-F, roll-GuardKind}
use Rattle.jp_ast.specs.declared.guard.GuardKind.TheFolds.{ind-GuardExpr, fold-GuardKind, fold-roll-GuardExpr, fold-roll-GuardKind, map-GuardKind}
use Rattle.jp_ast.specs.declared.guard.GuardKind.TheOpen as g
use Rattle.jp_ast.specs.declared.stmt.Stmt.{Stmt, fold-Stmt}
use Rattle.jp_ast.specs.declared.stmt.StmtKind.{StmtKind, StmtKind-F, roll-StmtKind}
use Rattle.jp_ast.specs.declared.stmt.StmtKind.TheFolds.{ind-Stmt, fold-StmtKind, fold-roll-Stmt, fold-roll-StmtKind, map-StmtKind}
use Rattle.jp_ast.specs.declared.stmt.StmtKind.TheOpen as s
use Rattle.jp_grammar.specs.Kinds.{nowhere}
use Rattle.jp_print.specs.Places.{unplaced, unplaced_guard, unplaced_layer, unplaced_stmt, unplaced_stmt_layer}

-- ---- expressions

module _ {A : Type 0} (f : ExprKind-F A A → A) where
  abbrev of_expr : Expr → A
  of_expr = fold-Expr A A f (λ e. e.kind)

  abbrev of_kind : ExprKind → A
  of_kind = fold-ExprKind A A f (λ e. e.kind)

  abbrev bare_expr : Expr → Expr
  bare_expr = fold-Expr ExprKind Expr roll-ExprKind (λ e. record { place = nowhere; kind = e.kind })

  abbrev bare_kind : ExprKind → ExprKind
  bare_kind = fold-ExprKind ExprKind Expr roll-ExprKind (λ e. record { place = nowhere; kind = e.kind })

  abbrev SameKind : ExprKind → Type 0
  SameKind k = of_kind (bare_kind k) ≡ of_kind k

  abbrev Same : Expr → Type 0
  Same t = of_expr (bare_expr t) ≡ of_expr t

  abbrev TheKind : Type 0
  TheKind = (k : ExprKind) × SameKind k

  abbrev TheExpr : Type 0
  TheExpr = (t : Expr) × Same t

  -- the values of the layer's parts, with their places and without
  abbrev kept : ExprKind-F ExprKind Expr → ExprKind-F A A
  kept x = map-ExprKind ExprKind Expr A A of_kind of_expr x

  abbrev bared : ExprKind-F ExprKind Expr → ExprKind-F A A
  bared x = kept (map-ExprKind ExprKind Expr ExprKind Expr bare_kind bare_expr x)

  all_same : (ts : List TheExpr) → map of_expr (map bare_expr (map (λ t. t.0) ts)) ≡ map of_expr (map (λ t. t.0) ts)
  all_same [] = refl
  all_same (t ∷ ts) = ap (λ x. x ∷ map of_expr (map bare_expr (map (λ t. t.0) ts))) t.1 ∙ ap (λ xs. of_expr t.0 ∷ xs) (all_same ts)

  layer : (y : ExprKind-F TheKind TheExpr) → let x = map-ExprKind TheKind TheExpr ExprKind Expr (λ k. k.0) (λ t. t.0) y in f (bared x) ≡ f (kept x)
  layer (e.Number value hex) = refl
  layer (e.Truth value) = refl
  layer e.Null = refl
  layer (e.Text text) = refl
  layer e.This = refl
  layer (e.Var name) = refl
  layer (e.Unary sign right) = ap (λ x. f (e.Unary sign x)) right.1
  layer (e.Binary sign left right) = ap (λ x. f (e.Binary sign x (of_expr (bare_expr right.0)))) left.1 ∙ ap (λ x. f (e.Binary sign (of_expr left.0) x)) right.1
  layer (e.Cond test first second) =
      ap (λ x. f (e.Cond x (of_expr (bare_expr first.0)) (of_expr (bare_expr second.0)))) test.1
      ∙ ap (λ x. f (e.Cond (of_expr test.0) x (of_expr (bare_expr second.0)))) first.1 ∙ ap (λ x. f (e.Cond (of_expr test.0) (of_expr first.0) x)) second.1
  layer (e.Cast class value) = ap (λ x. f (e.Cast class x)) value.1
  layer (e.InstanceOf value class) = ap (λ x. f (e.InstanceOf x class)) value.1
  layer (e.Field object name) = ap (λ x. f (e.Field x name)) object.1
  layer (e.Index array index) = ap (λ x. f (e.Index x (of_expr (bare_expr index.0)))) array.1 ∙ ap (λ x. f (e.Index (of_expr array.0) x)) index.1
  layer (e.Call None name args) = ap (λ x. f (e.Call None name x)) (all_same args)
  layer (e.Call (Some object) name args) =
      ap (λ x. f (e.Call (Some x) name (map of_expr (map bare_expr (map (λ t. t.0) args))))) object.1 ∙ ap (λ x. f (e.Call (Some (of_expr object.0)) name x)) (all_same args)
  layer (e.SuperCall name args) = ap (λ x. f (e.SuperCall name x)) (all_same args)
  layer (e.New class args) = ap (λ x. f (e.New class x)) (all_same args)
  layer (e.NewArray elem size) = ap (λ x. f (e.NewArray elem x)) size.1

  kind_step : (x : ExprKind-F ExprKind Expr) → f (bared x) ≡ f (kept x) → SameKind (roll-ExprKind x)
  kind_step x h =
      ap of_kind (fold-roll-ExprKind ExprKind Expr roll-ExprKind (λ e. record { place = nowhere; kind = e.kind }) x)
      ∙ fold-roll-ExprKind A A f (λ e. e.kind) (map-ExprKind ExprKind Expr ExprKind Expr bare_kind bare_expr x)
      ∙ h ∙ sym (fold-roll-ExprKind A A f (λ e. e.kind) x)

  expr_step : (x : e.Expr-F ExprKind Expr) → SameKind x.kind → Same (record { place = x.place; kind = x.kind })
  expr_step x h =
      ap of_expr (fold-roll-Expr ExprKind Expr roll-ExprKind (λ e. record { place = nowhere; kind = e.kind }) x)
      ∙ fold-roll-Expr A A f (λ e. e.kind) (record { place = nowhere; kind = bare_kind x.kind })
      ∙ h ∙ sym (fold-roll-Expr A A f (λ e. e.kind) x)

  pub expr_fold : (t : Expr) → fold-Expr A A f (λ e. e.kind) (unplaced t) ≡ fold-Expr A A f (λ e. e.kind) t
  unfolding unplaced
  expr_fold = ind-Expr SameKind Same
      (λ x y is. kind_step x (subst (λ (z : ExprKind-F ExprKind Expr). f (bared z) ≡ f (kept z)) is (layer y)))
      (λ x y is. expr_step x (subst (λ (z : e.Expr-F ExprKind Expr). SameKind z.kind) is y.kind.1))

-- ---- guards

module _ {A : Type 0} (f : GuardKind-F A A → A) (blind : (z : GuardKind-F A A) → f (unplaced_layer z) ≡ f z) where
  abbrev of_guard : GuardExpr → A
  of_guard = fold-GuardExpr A A f (λ g. g.kind)

  abbrev of_guard_kind : GuardKind → A
  of_guard_kind = fold-GuardKind A A f (λ g. g.kind)

  abbrev bare_guard : GuardExpr → GuardExpr
  bare_guard = fold-GuardExpr GuardKind GuardExpr (λ layer. roll-GuardKind (unplaced_layer layer)) (λ g. record { place = nowhere; kind = g.kind })

  abbrev bare_guard_kind : GuardKind → GuardKind
  bare_guard_kind = fold-GuardKind GuardKind GuardExpr (λ layer. roll-GuardKind (unplaced_layer layer)) (λ g. record { place = nowhere; kind = g.kind })

  abbrev SameGuardKind : GuardKind → Type 0
  SameGuardKind k = of_guard_kind (bare_guard_kind k) ≡ of_guard_kind k

  abbrev SameGuard : GuardExpr → Type 0
  SameGuard g = of_guard (bare_guard g) ≡ of_guard g

  abbrev TheGuardKind : Type 0
  TheGuardKind = (k : GuardKind) × SameGuardKind k

  abbrev TheGuard : Type 0
  TheGuard = (g : GuardExpr) × SameGuard g

  abbrev kept_guard : GuardKind-F GuardKind GuardExpr → GuardKind-F A A
  kept_guard x = map-GuardKind GuardKind GuardExpr A A of_guard_kind of_guard x

  abbrev bared_guard : GuardKind-F GuardKind GuardExpr → GuardKind-F A A
  bared_guard x = kept_guard (unplaced_layer (map-GuardKind GuardKind GuardExpr GuardKind GuardExpr bare_guard_kind bare_guard x))

  guard_layer : (y : GuardKind-F TheGuardKind TheGuard) → let x = map-GuardKind TheGuardKind TheGuard GuardKind GuardExpr (λ k. k.0) (λ g. g.0) y in f (bared_guard x) ≡ f (kept_guard x)
  guard_layer (g.Truth value) = refl
  guard_layer (g.Not right) = ap (λ x. f (g.Not x)) right.1
  guard_layer (g.And left right) = ap (λ x. f (g.And x (of_guard (bare_guard right.0)))) left.1 ∙ ap (λ x. f (g.And (of_guard left.0) x)) right.1
  guard_layer (g.Or left right) = ap (λ x. f (g.Or x (of_guard (bare_guard right.0)))) left.1 ∙ ap (λ x. f (g.Or (of_guard left.0) x)) right.1
  guard_layer (g.Is path class alias) = blind (g.Is path class alias)
  guard_layer (g.Alias path name) = blind (g.Alias path name)
  guard_layer (g.NullTest path equal) = blind (g.NullTest path equal)
  guard_layer (g.Flag path) = blind (g.Flag path)
  guard_layer (g.Compare left sign right) = blind (g.Compare left sign right)

  guard_kind_step : (x : GuardKind-F GuardKind GuardExpr) → f (bared_guard x) ≡ f (kept_guard x) → SameGuardKind (roll-GuardKind x)
  guard_kind_step x h =
      ap of_guard_kind (fold-roll-GuardKind GuardKind GuardExpr (λ layer. roll-GuardKind (unplaced_layer layer)) (λ g. record { place = nowhere; kind = g.kind }) x)
      ∙ fold-roll-GuardKind A A f (λ g. g.kind) (unplaced_layer (map-GuardKind GuardKind GuardExpr GuardKind GuardExpr bare_guard_kind bare_guard x))
      ∙ h ∙ sym (fold-roll-GuardKind A A f (λ g. g.kind) x)

  guard_expr_step : (x : g.GuardExpr-F GuardKind GuardExpr) → SameGuardKind x.kind → SameGuard (record { place = x.place; kind = x.kind })
  guard_expr_step x h =
      ap of_guard (fold-roll-GuardExpr GuardKind GuardExpr (λ layer. roll-GuardKind (unplaced_layer layer)) (λ g. record { place = nowhere; kind = g.kind }) x)
      ∙ fold-roll-GuardExpr A A f (λ g. g.kind) (record { place = nowhere; kind = bare_guard_kind x.kind })
      ∙ h ∙ sym (fold-roll-GuardExpr A A f (λ g. g.kind) x)

  pub guard_fold : (t : GuardExpr) → fold-GuardExpr A A f (λ g. g.kind) (unplaced_guard t) ≡ fold-GuardExpr A A f (λ g. g.kind) t
  unfolding unplaced_guard
  guard_fold = ind-GuardExpr SameGuardKind SameGuard
      (λ x y is. guard_kind_step x (subst (λ (z : GuardKind-F GuardKind GuardExpr). f (bared_guard z) ≡ f (kept_guard z)) is (guard_layer y)))
      (λ x y is. guard_expr_step x (subst (λ (z : g.GuardExpr-F GuardKind GuardExpr). SameGuardKind z.kind) is y.kind.1))

-- ---- statements

module _ {A : Type 0} (f : StmtKind-F A A → A) (blind : (z : StmtKind-F A A) → f (unplaced_stmt_layer z) ≡ f z) where
  abbrev of_stmt : Stmt → A
  of_stmt = fold-Stmt A A f (λ s. s.kind)

  abbrev of_stmt_kind : StmtKind → A
  of_stmt_kind = fold-StmtKind A A f (λ s. s.kind)

  abbrev bare_stmt : Stmt → Stmt
  bare_stmt = fold-Stmt StmtKind Stmt (λ layer. roll-StmtKind (unplaced_stmt_layer layer)) (λ s. record { place = nowhere; kind = s.kind })

  abbrev bare_stmt_kind : StmtKind → StmtKind
  bare_stmt_kind = fold-StmtKind StmtKind Stmt (λ layer. roll-StmtKind (unplaced_stmt_layer layer)) (λ s. record { place = nowhere; kind = s.kind })

  abbrev SameStmtKind : StmtKind → Type 0
  SameStmtKind k = of_stmt_kind (bare_stmt_kind k) ≡ of_stmt_kind k

  abbrev SameStmt : Stmt → Type 0
  SameStmt s = of_stmt (bare_stmt s) ≡ of_stmt s

  abbrev TheStmtKind : Type 0
  TheStmtKind = (k : StmtKind) × SameStmtKind k

  abbrev TheStmt : Type 0
  TheStmt = (s : Stmt) × SameStmt s

  abbrev kept_stmt : StmtKind-F StmtKind Stmt → StmtKind-F A A
  kept_stmt x = map-StmtKind StmtKind Stmt A A of_stmt_kind of_stmt x

  abbrev bared_stmt : StmtKind-F StmtKind Stmt → StmtKind-F A A
  bared_stmt x = kept_stmt (unplaced_stmt_layer (map-StmtKind StmtKind Stmt StmtKind Stmt bare_stmt_kind bare_stmt x))

  all_stmts_same : (ts : List TheStmt) → map of_stmt (map bare_stmt (map (λ t. t.0) ts)) ≡ map of_stmt (map (λ t. t.0) ts)
  all_stmts_same [] = refl
  all_stmts_same (t ∷ ts) = ap (λ x. x ∷ map of_stmt (map bare_stmt (map (λ t. t.0) ts))) t.1 ∙ ap (λ xs. of_stmt t.0 ∷ xs) (all_stmts_same ts)

  maybe_same : (t : Option TheStmt) → option_map of_stmt (option_map bare_stmt (option_map (λ t. t.0) t)) ≡ option_map of_stmt (option_map (λ t. t.0) t)
  maybe_same None = refl
  maybe_same (Some t) = ap (λ x. Some x) t.1

  -- the value of what was there
  abbrev values : Option TheStmt → Option A
  values t = option_map of_stmt (option_map (λ t. t.0) t)

  abbrev bare_values : Option TheStmt → Option A
  bare_values t = option_map of_stmt (option_map bare_stmt (option_map (λ t. t.0) t))

  if_same : (test : Expr) (first : TheStmt) (second : Option TheStmt) → f (s.If test (of_stmt (bare_stmt first.0)) (bare_values second)) ≡ f (s.If test (of_stmt first.0) (values second))
  if_same test first second = ap (λ x. f (s.If test x (bare_values second))) first.1 ∙ ap (λ x. f (s.If test (of_stmt first.0) x)) (maybe_same second)

  for_same : (init : Option TheStmt) (test : Option Expr) (change : Option TheStmt) (body : TheStmt) →
      f (s.For (bare_values init) test (bare_values change) (of_stmt (bare_stmt body.0))) ≡ f (s.For (values init) test (values change) (of_stmt body.0))
  for_same init test change body =
      ap (λ x. f (s.For x test (bare_values change) (of_stmt (bare_stmt body.0)))) (maybe_same init)
      ∙ ap (λ x. f (s.For (values init) test x (of_stmt (bare_stmt body.0)))) (maybe_same change) ∙ ap (λ x. f (s.For (values init) test (values change) x)) body.1

  stmt_layer : (y : StmtKind-F TheStmtKind TheStmt) → let x = map-StmtKind TheStmtKind TheStmt StmtKind Stmt (λ k. k.0) (λ t. t.0) y in f (bared_stmt x) ≡ f (kept_stmt x)
  stmt_layer (s.Block block) = ap (λ x. f (s.Block x)) (all_stmts_same block)
  stmt_layer s.Empty = refl
  stmt_layer (s.Local ty name value) = blind (s.Local ty name value)
  stmt_layer (s.If test first None) = blind (s.If test (of_stmt (bare_stmt first.0)) None) ∙ if_same test first None
  stmt_layer (s.If test first (Some second)) = blind (s.If test (of_stmt (bare_stmt first.0)) (bare_values (Some second))) ∙ if_same test first (Some second)
  stmt_layer (s.While test body) = blind (s.While test (of_stmt (bare_stmt body.0))) ∙ ap (λ x. f (s.While test x)) body.1
  stmt_layer (s.For None test None body) = blind (s.For None test None (of_stmt (bare_stmt body.0))) ∙ for_same None test None body
  stmt_layer (s.For None test (Some change) body) = blind (s.For None test (bare_values (Some change)) (of_stmt (bare_stmt body.0))) ∙ for_same None test (Some change) body
  stmt_layer (s.For (Some init) test None body) = blind (s.For (bare_values (Some init)) test None (of_stmt (bare_stmt body.0))) ∙ for_same (Some init) test None body
  stmt_layer (s.For (Some init) test (Some change) body) =
      blind (s.For (bare_values (Some init)) test (bare_values (Some change)) (of_stmt (bare_stmt body.0))) ∙ for_same (Some init) test (Some change) body
  stmt_layer s.Break = refl
  stmt_layer s.Continue = refl
  stmt_layer (s.Return value) = blind (s.Return value)
  stmt_layer (s.Assign left sign right) = blind (s.Assign left sign right)
  stmt_layer (s.Bump left up) = blind (s.Bump left up)
  stmt_layer (s.Run value) = blind (s.Run value)

  stmt_kind_step : (x : StmtKind-F StmtKind Stmt) → f (bared_stmt x) ≡ f (kept_stmt x) → SameStmtKind (roll-StmtKind x)
  stmt_kind_step x h =
      ap of_stmt_kind (fold-roll-StmtKind StmtKind Stmt (λ layer. roll-StmtKind (unplaced_stmt_layer layer)) (λ s. record { place = nowhere; kind = s.kind }) x)
      ∙ fold-roll-StmtKind A A f (λ s. s.kind) (unplaced_stmt_layer (map-StmtKind StmtKind Stmt StmtKind Stmt bare_stmt_kind bare_stmt x))
      ∙ h ∙ sym (fold-roll-StmtKind A A f (λ s. s.kind) x)

  stmt_expr_step : (x : s.Stmt-F StmtKind Stmt) → SameStmtKind x.kind → SameStmt (record { place = x.place; kind = x.kind })
  stmt_expr_step x h =
      ap of_stmt (fold-roll-Stmt StmtKind Stmt (λ layer. roll-StmtKind (unplaced_stmt_layer layer)) (λ s. record { place = nowhere; kind = s.kind }) x)
      ∙ fold-roll-Stmt A A f (λ s. s.kind) (record { place = nowhere; kind = bare_stmt_kind x.kind })
      ∙ h ∙ sym (fold-roll-Stmt A A f (λ s. s.kind) x)

  pub stmt_fold : (t : Stmt) → fold-Stmt A A f (λ s. s.kind) (unplaced_stmt t) ≡ fold-Stmt A A f (λ s. s.kind) t
  unfolding unplaced_stmt
  stmt_fold = ind-Stmt SameStmtKind SameStmt
      (λ x y is. stmt_kind_step x (subst (λ (z : StmtKind-F StmtKind Stmt). f (bared_stmt z) ≡ f (kept_stmt z)) is (stmt_layer y)))
      (λ x y is. stmt_expr_step x (subst (λ (z : s.Stmt-F StmtKind Stmt). SameStmtKind z.kind) is y.kind.1))
