-- The names in expressions, statements and guards that have several parts, by the names in the parts.
use Rattle.std.proofs.Common.{◌≡◌, ℕ, List, ◌++◌, map, Option, Some, None, refl, sym, ap, ◌∙◌}
use Rattle.std.specs.List.{flat_map}
use Rattle.std.specs.Option.{option_or}
use Rattle.std.proofs.lemmas.List.Folds.{flat_map-map}
use Rattle.jp_pred.specs.declared.ty.Ty.{Ty}
use Rattle.jp_pred.specs.Names.{Word}
use Rattle.jp_ast.specs.declared.token.Place.{Place}
use Rattle.jp_ast.specs.declared.expr.Expr.{Expr, fold_out-Expr}
use Rattle.jp_ast.specs.declared.expr.ExprKind.{ExprKind, fold_out-ExprKind}
use Rattle.jp_ast.specs.declared.expr.ExprKind.TheVariants as form
use Rattle.jp_ast.specs.declared.stmt.Stmt.{Stmt}
use Rattle.jp_ast.specs.declared.stmt.Stmt as on_stmts
use Rattle.jp_ast.specs.declared.stmt.StmtKind.{StmtKind, fold_out-StmtKind}
use Rattle.jp_ast.specs.declared.stmt.StmtKind.TheVariants as run
use Rattle.jp_ast.specs.declared.guard.GuardExpr.{GuardExpr}
use Rattle.jp_ast.specs.declared.guard.GuardExpr as on_guards
use Rattle.jp_ast.specs.declared.guard.GuardKind.{GuardKind, fold_out-GuardKind}
use Rattle.jp_ast.specs.declared.guard.GuardKind.TheVariants as test
use Rattle.own_names.specs.Naming.{Named, alone, type_names, in_option, first_unknown}
use Rattle.own_names.specs.Trees.{joined, expr_names, stmt_names, guard_names}
use Rattle.own_names.proofs.Firsts.{first_append}

-- the first of two lists, and of one as it is written
pub two_parts : (known : List Word) (xs ys zs : List Named) (p q r : Option Place) → p ≡ first_unknown known xs → q ≡ first_unknown known ys → r ≡ option_or p q → zs ≡ xs ++ ys → r ≡ first_unknown known zs
two_parts known xs ys zs p q r e f g h =
    g ∙ (ap (λ o. option_or o q) e ∙ (ap (option_or (first_unknown known xs)) f ∙ (sym (first_append known xs ys) ∙ ap (first_unknown known) (sym h))))

-- EXPRESSIONS

at_expr : (x : Expr) (kind : ExprKind) (names : List Named) → x.kind ≡ kind → expr_names (record { place = x.place; kind = kind }) ≡ names → expr_names x ≡ names
at_expr x kind names h e = ap (λ (k : ExprKind). expr_names (record { place = x.place; kind = k })) h ∙ e

expr_lists : (xs : List Expr) → joined (map expr_names xs) ≡ flat_map expr_names xs
expr_lists xs = flat_map-map (λ names. names) expr_names xs

pub binary_names : (x : Expr) (n : ℕ) (a b : Expr) → x.kind ≡ form.Binary n a b → expr_names x ≡ expr_names a ++ expr_names b
binary_names x n a b h = at_expr x _ _ h (rw (fold_out-Expr, fold_out-ExprKind, form.outs-Binary) refl)

pub cond_names : (x a b c : Expr) → x.kind ≡ form.Cond a b c → expr_names x ≡ expr_names a ++ expr_names b ++ expr_names c
cond_names x a b c h = at_expr x _ _ h (rw (fold_out-Expr, fold_out-ExprKind, form.outs-Cond) refl)

pub cast_names : (x : Expr) (n : Word) (a : Expr) → x.kind ≡ form.Cast n a → expr_names x ≡ alone x.place n ++ expr_names a
cast_names x n a h = at_expr x _ _ h (rw (fold_out-Expr, fold_out-ExprKind, form.outs-Cast) refl)

pub test_names : (x a : Expr) (n : Word) → x.kind ≡ form.InstanceOf a n → expr_names x ≡ expr_names a ++ alone x.place n
test_names x a n h = at_expr x _ _ h (rw (fold_out-Expr, fold_out-ExprKind, form.outs-InstanceOf) refl)

pub index_names : (x a b : Expr) → x.kind ≡ form.Index a b → expr_names x ≡ expr_names a ++ expr_names b
index_names x a b h = at_expr x _ _ h (rw (fold_out-Expr, fold_out-ExprKind, form.outs-Index) refl)

call_at : (p : Place) (o : Option Expr) (n : Word) (xs : List Expr) → expr_names (record { place = p; kind = form.Call o n xs }) ≡ in_option expr_names o ++ joined (map expr_names xs)
call_at p None n xs = rw (fold_out-Expr, fold_out-ExprKind, form.outs-Call) refl
call_at p (Some a) n xs = rw (fold_out-Expr, fold_out-ExprKind, form.outs-Call) refl

pub call_names : (x : Expr) (o : Option Expr) (n : Word) (xs : List Expr) → x.kind ≡ form.Call o n xs → expr_names x ≡ in_option expr_names o ++ flat_map expr_names xs
call_names x o n xs h = at_expr x _ _ h (call_at x.place o n xs) ∙ ap (λ names. in_option expr_names o ++ names) (expr_lists xs)

super_at : (p : Place) (n : Word) (xs : List Expr) → expr_names (record { place = p; kind = form.SuperCall n xs }) ≡ joined (map expr_names xs)
super_at p n xs = rw (fold_out-Expr, fold_out-ExprKind, form.outs-SuperCall) refl

pub super_names : (x : Expr) (n : Word) (xs : List Expr) → x.kind ≡ form.SuperCall n xs → expr_names x ≡ flat_map expr_names xs
super_names x n xs h = at_expr x _ _ h (super_at x.place n xs) ∙ expr_lists xs

new_at : (p : Place) (n : Word) (xs : List Expr) → expr_names (record { place = p; kind = form.New n xs }) ≡ alone p n ++ joined (map expr_names xs)
new_at p n xs = rw (fold_out-Expr, fold_out-ExprKind, form.outs-New) refl

pub new_names : (x : Expr) (n : Word) (xs : List Expr) → x.kind ≡ form.New n xs → expr_names x ≡ alone x.place n ++ flat_map expr_names xs
new_names x n xs h = at_expr x _ _ h (new_at x.place n xs) ∙ ap (λ names. alone x.place n ++ names) (expr_lists xs)

pub array_names : (x : Expr) (t : Ty) (a : Expr) → x.kind ≡ form.NewArray t a → expr_names x ≡ type_names x.place t ++ expr_names a
array_names x t a h = at_expr x _ _ h (rw (fold_out-Expr, fold_out-ExprKind, form.outs-NewArray) refl)

-- STATEMENTS

at_stmt : (x : Stmt) (kind : StmtKind) (names : List Named) → x.kind ≡ kind → stmt_names (record { place = x.place; kind = kind }) ≡ names → stmt_names x ≡ names
at_stmt x kind names h e = ap (λ (k : StmtKind). stmt_names (record { place = x.place; kind = k })) h ∙ e

block_at : (p : Place) (xs : List Stmt) → stmt_names (record { place = p; kind = run.Block xs }) ≡ joined (map stmt_names xs)
block_at p xs = rw (on_stmts.fold_out-Stmt, fold_out-StmtKind, run.outs-Block) refl

pub block_names : (x : Stmt) (xs : List Stmt) → x.kind ≡ run.Block xs → stmt_names x ≡ flat_map stmt_names xs
block_names x xs h = at_stmt x _ _ h (block_at x.place xs) ∙ flat_map-map (λ names. names) stmt_names xs

pub local_names : (x : Stmt) (t : Ty) (n : Word) (v : Option Expr) → x.kind ≡ run.Local t n v → stmt_names x ≡ type_names x.place t ++ in_option expr_names v
local_names x t n v h = at_stmt x _ _ h (rw (on_stmts.fold_out-Stmt, fold_out-StmtKind, run.outs-Local) refl)

if_at : (p : Place) (test : Expr) (a : Stmt) (b : Option Stmt) → stmt_names (record { place = p; kind = run.If test a b }) ≡ expr_names test ++ stmt_names a ++ in_option stmt_names b
if_at p test a None = rw (on_stmts.fold_out-Stmt, fold_out-StmtKind, run.outs-If) refl
if_at p test a (Some b) = rw (on_stmts.fold_out-Stmt, fold_out-StmtKind, run.outs-If) refl

pub if_names : (x : Stmt) (test : Expr) (a : Stmt) (b : Option Stmt) → x.kind ≡ run.If test a b → stmt_names x ≡ expr_names test ++ stmt_names a ++ in_option stmt_names b
if_names x test a b h = at_stmt x _ _ h (if_at x.place test a b)

pub while_names : (x : Stmt) (test : Expr) (a : Stmt) → x.kind ≡ run.While test a → stmt_names x ≡ expr_names test ++ stmt_names a
while_names x test a h = at_stmt x _ _ h (rw (on_stmts.fold_out-Stmt, fold_out-StmtKind, run.outs-While) refl)

for_at : (p : Place) (init : Option Stmt) (test : Option Expr) (change : Option Stmt) (a : Stmt) →
    stmt_names (record { place = p; kind = run.For init test change a }) ≡ in_option stmt_names init ++ in_option expr_names test ++ in_option stmt_names change ++ stmt_names a
for_at p None test None a = rw (on_stmts.fold_out-Stmt, fold_out-StmtKind, run.outs-For) refl
for_at p None test (Some change) a = rw (on_stmts.fold_out-Stmt, fold_out-StmtKind, run.outs-For) refl
for_at p (Some init) test None a = rw (on_stmts.fold_out-Stmt, fold_out-StmtKind, run.outs-For) refl
for_at p (Some init) test (Some change) a = rw (on_stmts.fold_out-Stmt, fold_out-StmtKind, run.outs-For) refl

pub for_names : (x : Stmt) (init : Option Stmt) (test : Option Expr) (change : Option Stmt) (a : Stmt) → x.kind ≡ run.For init test change a →
    stmt_names x ≡ in_option stmt_names init ++ in_option expr_names test ++ in_option stmt_names change ++ stmt_names a
for_names x init test change a h = at_stmt x _ _ h (for_at x.place init test change a)

pub assign_names : (x : Stmt) (a : Expr) (n : ℕ) (b : Expr) → x.kind ≡ run.Assign a n b → stmt_names x ≡ expr_names a ++ expr_names b
assign_names x a n b h = at_stmt x _ _ h (rw (on_stmts.fold_out-Stmt, fold_out-StmtKind, run.outs-Assign) refl)

-- GUARDS

at_guard : (x : GuardExpr) (kind : GuardKind) (names : List Named) → x.kind ≡ kind → guard_names (record { place = x.place; kind = kind }) ≡ names → guard_names x ≡ names
at_guard x kind names h e = ap (λ (k : GuardKind). guard_names (record { place = x.place; kind = k })) h ∙ e

pub and_names : (x a b : GuardExpr) → x.kind ≡ test.And a b → guard_names x ≡ guard_names a ++ guard_names b
and_names x a b h = at_guard x _ _ h (rw (on_guards.fold_out-GuardExpr, fold_out-GuardKind, test.outs-And) refl)

pub or_names : (x a b : GuardExpr) → x.kind ≡ test.Or a b → guard_names x ≡ guard_names a ++ guard_names b
or_names x a b h = at_guard x _ _ h (rw (on_guards.fold_out-GuardExpr, fold_out-GuardKind, test.outs-Or) refl)
