-- The texts of expressions and statements that have several parts, by the texts of the parts.
use Rattle.std.proofs.Common.{◌≡◌, ℕ, List, [], ◌∷◌, ◌++◌, map, Option, Some, None, refl, sym, ap, ◌∙◌}
use Rattle.std.specs.List.{flat_map}
use Rattle.std.specs.Option.{option_or}
use Rattle.std.proofs.lemmas.List.Folds.{flat_map-map}
use Rattle.jp_pred.specs.Names.{Word}
use Rattle.jp_ast.specs.declared.token.Place.{Place}
use Rattle.jp_ast.specs.declared.expr.Expr.{Expr, fold_out-Expr}
use Rattle.jp_ast.specs.declared.expr.ExprKind.{ExprKind, fold_out-ExprKind}
use Rattle.jp_ast.specs.declared.expr.ExprKind.TheVariants as form
use Rattle.jp_ast.specs.declared.stmt.Stmt.{Stmt}
use Rattle.jp_ast.specs.declared.stmt.Stmt as on_stmts
use Rattle.jp_ast.specs.declared.stmt.StmtKind.{StmtKind, fold_out-StmtKind}
use Rattle.jp_ast.specs.declared.stmt.StmtKind.TheVariants as run
use Rattle.unit_limits.specs.declared.limits.TooLarge.{TooLarge}
use Rattle.unit_limits.specs.Counting.{Count, first_told}
use Rattle.unit_limits.specs.Texts.{in_option, joined, expr_texts, stmt_texts}
use Rattle.unit_limits.proofs.Firsts.{told_append}

-- the first of two lists, and of one as it is written
pub two_parts : (xs ys zs : List Count) (p q r : Option TooLarge) → p ≡ first_told xs → q ≡ first_told ys → r ≡ option_or p q → zs ≡ xs ++ ys → r ≡ first_told zs
two_parts xs ys zs p q r e f g h =
    g ∙ (ap (λ o. option_or o q) e ∙ (ap (option_or (first_told xs)) f ∙ (sym (told_append xs ys) ∙ ap first_told (sym h))))

-- four counts behind a list
four : (xs : List Count) (a b c d : Count) → xs ++ a ∷ [] ++ b ∷ [] ++ c ∷ [] ++ d ∷ [] ≡ xs ++ (a ∷ b ∷ c ∷ d ∷ [])
four [] a b c d = refl
four (x ∷ xs) a b c d = ap (λ l. x ∷ l) (four xs a b c d)

pub then_four : (xs : List Count) (a b c d : Count) (o p q r s one two three all : Option TooLarge) → o ≡ first_told xs → p ≡ first_told (a ∷ []) → q ≡ first_told (b ∷ []) → r ≡ first_told (c ∷ []) → s ≡ first_told (d ∷ []) →
    one ≡ option_or o p → two ≡ option_or one q → three ≡ option_or two r → all ≡ option_or three s → all ≡ first_told (xs ++ (a ∷ b ∷ c ∷ d ∷ []))
then_four xs a b c d o p q r s one two three all e f g h k l m n u =
    let first = two_parts xs (a ∷ []) (xs ++ a ∷ []) o p one e f l refl in
    let second = two_parts (xs ++ a ∷ []) (b ∷ []) (xs ++ a ∷ [] ++ b ∷ []) one q two first g m refl in
    let third = two_parts (xs ++ a ∷ [] ++ b ∷ []) (c ∷ []) (xs ++ a ∷ [] ++ b ∷ [] ++ c ∷ []) two r three second h n refl in
    two_parts (xs ++ a ∷ [] ++ b ∷ [] ++ c ∷ []) (d ∷ []) (xs ++ (a ∷ b ∷ c ∷ d ∷ [])) three s all third k u (sym (four xs a b c d))

-- EXPRESSIONS

at_expr : (x : Expr) (kind : ExprKind) (cs : List Count) → x.kind ≡ kind → expr_texts (record { place = x.place; kind = kind }) ≡ cs → expr_texts x ≡ cs
at_expr x kind cs h e = ap (λ (k : ExprKind). expr_texts (record { place = x.place; kind = k })) h ∙ e

expr_lists : (xs : List Expr) → joined (map expr_texts xs) ≡ flat_map expr_texts xs
expr_lists xs = flat_map-map (λ cs. cs) expr_texts xs

pub binary_texts : (x : Expr) (n : ℕ) (a b : Expr) → x.kind ≡ form.Binary n a b → expr_texts x ≡ expr_texts a ++ expr_texts b
binary_texts x n a b h = at_expr x _ _ h (rw (fold_out-Expr, fold_out-ExprKind, form.outs-Binary) refl)

pub cond_texts : (x a b c : Expr) → x.kind ≡ form.Cond a b c → expr_texts x ≡ expr_texts a ++ expr_texts b ++ expr_texts c
cond_texts x a b c h = at_expr x _ _ h (rw (fold_out-Expr, fold_out-ExprKind, form.outs-Cond) refl)

pub index_texts : (x a b : Expr) → x.kind ≡ form.Index a b → expr_texts x ≡ expr_texts a ++ expr_texts b
index_texts x a b h = at_expr x _ _ h (rw (fold_out-Expr, fold_out-ExprKind, form.outs-Index) refl)

call_at : (p : Place) (o : Option Expr) (n : Word) (xs : List Expr) → expr_texts (record { place = p; kind = form.Call o n xs }) ≡ in_option expr_texts o ++ joined (map expr_texts xs)
call_at p None n xs = rw (fold_out-Expr, fold_out-ExprKind, form.outs-Call) refl
call_at p (Some a) n xs = rw (fold_out-Expr, fold_out-ExprKind, form.outs-Call) refl

pub call_texts : (x : Expr) (o : Option Expr) (n : Word) (xs : List Expr) → x.kind ≡ form.Call o n xs → expr_texts x ≡ in_option expr_texts o ++ flat_map expr_texts xs
call_texts x o n xs h = at_expr x _ _ h (call_at x.place o n xs) ∙ ap (λ cs. in_option expr_texts o ++ cs) (expr_lists xs)

super_at : (p : Place) (n : Word) (xs : List Expr) → expr_texts (record { place = p; kind = form.SuperCall n xs }) ≡ joined (map expr_texts xs)
super_at p n xs = rw (fold_out-Expr, fold_out-ExprKind, form.outs-SuperCall) refl

pub super_texts : (x : Expr) (n : Word) (xs : List Expr) → x.kind ≡ form.SuperCall n xs → expr_texts x ≡ flat_map expr_texts xs
super_texts x n xs h = at_expr x _ _ h (super_at x.place n xs) ∙ expr_lists xs

new_at : (p : Place) (n : Word) (xs : List Expr) → expr_texts (record { place = p; kind = form.New n xs }) ≡ joined (map expr_texts xs)
new_at p n xs = rw (fold_out-Expr, fold_out-ExprKind, form.outs-New) refl

pub new_texts : (x : Expr) (n : Word) (xs : List Expr) → x.kind ≡ form.New n xs → expr_texts x ≡ flat_map expr_texts xs
new_texts x n xs h = at_expr x _ _ h (new_at x.place n xs) ∙ expr_lists xs

-- STATEMENTS

at_stmt : (x : Stmt) (kind : StmtKind) (cs : List Count) → x.kind ≡ kind → stmt_texts (record { place = x.place; kind = kind }) ≡ cs → stmt_texts x ≡ cs
at_stmt x kind cs h e = ap (λ (k : StmtKind). stmt_texts (record { place = x.place; kind = k })) h ∙ e

block_at : (p : Place) (xs : List Stmt) → stmt_texts (record { place = p; kind = run.Block xs }) ≡ joined (map stmt_texts xs)
block_at p xs = rw (on_stmts.fold_out-Stmt, fold_out-StmtKind, run.outs-Block) refl

pub block_texts : (x : Stmt) (xs : List Stmt) → x.kind ≡ run.Block xs → stmt_texts x ≡ flat_map stmt_texts xs
block_texts x xs h = at_stmt x _ _ h (block_at x.place xs) ∙ flat_map-map (λ cs. cs) stmt_texts xs

if_at : (p : Place) (test : Expr) (a : Stmt) (b : Option Stmt) → stmt_texts (record { place = p; kind = run.If test a b }) ≡ expr_texts test ++ stmt_texts a ++ in_option stmt_texts b
if_at p test a None = rw (on_stmts.fold_out-Stmt, fold_out-StmtKind, run.outs-If) refl
if_at p test a (Some b) = rw (on_stmts.fold_out-Stmt, fold_out-StmtKind, run.outs-If) refl

pub if_texts : (x : Stmt) (test : Expr) (a : Stmt) (b : Option Stmt) → x.kind ≡ run.If test a b → stmt_texts x ≡ expr_texts test ++ stmt_texts a ++ in_option stmt_texts b
if_texts x test a b h = at_stmt x _ _ h (if_at x.place test a b)

pub while_texts : (x : Stmt) (test : Expr) (a : Stmt) → x.kind ≡ run.While test a → stmt_texts x ≡ expr_texts test ++ stmt_texts a
while_texts x test a h = at_stmt x _ _ h (rw (on_stmts.fold_out-Stmt, fold_out-StmtKind, run.outs-While) refl)

for_at : (p : Place) (init : Option Stmt) (test : Option Expr) (change : Option Stmt) (a : Stmt) →
    stmt_texts (record { place = p; kind = run.For init test change a }) ≡ in_option stmt_texts init ++ in_option expr_texts test ++ in_option stmt_texts change ++ stmt_texts a
for_at p None test None a = rw (on_stmts.fold_out-Stmt, fold_out-StmtKind, run.outs-For) refl
for_at p None test (Some change) a = rw (on_stmts.fold_out-Stmt, fold_out-StmtKind, run.outs-For) refl
for_at p (Some init) test None a = rw (on_stmts.fold_out-Stmt, fold_out-StmtKind, run.outs-For) refl
for_at p (Some init) test (Some change) a = rw (on_stmts.fold_out-Stmt, fold_out-StmtKind, run.outs-For) refl

pub for_texts : (x : Stmt) (init : Option Stmt) (test : Option Expr) (change : Option Stmt) (a : Stmt) → x.kind ≡ run.For init test change a →
    stmt_texts x ≡ in_option stmt_texts init ++ in_option expr_texts test ++ in_option stmt_texts change ++ stmt_texts a
for_texts x init test change a h = at_stmt x _ _ h (for_at x.place init test change a)

pub assign_texts : (x : Stmt) (a : Expr) (n : ℕ) (b : Expr) → x.kind ≡ run.Assign a n b → stmt_texts x ≡ expr_texts a ++ expr_texts b
assign_texts x a n b h = at_stmt x _ _ h (rw (on_stmts.fold_out-Stmt, fold_out-StmtKind, run.outs-Assign) refl)
