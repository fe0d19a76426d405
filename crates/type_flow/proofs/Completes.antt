-- Whether a statement of each form can complete, and whether it holds a `break`.
use Rattle.std.proofs.Common.{◌≡◌, ℕ, List, [], ◌∷◌, map, Bool, ◌&&◌, ◌||◌, Option, Some, None, refl, ap, ◌∙◌}
use Rattle.std.specs.List.{list_any, list_all}
use Rattle.std.specs.Option.{option_map}
use Rattle.jp_pred.specs.declared.ty.Ty.{Ty}
use Rattle.jp_pred.specs.Names.{Word}
use Rattle.jp_ast.specs.declared.token.Place.{Place}
use Rattle.jp_ast.specs.declared.expr.Expr.{Expr}
use Rattle.jp_ast.specs.declared.stmt.Stmt.{Stmt, fold_out-Stmt}
use Rattle.jp_ast.specs.declared.stmt.StmtKind.{StmtKind, fold_out-StmtKind}
use Rattle.jp_ast.specs.declared.stmt.StmtKind.TheOpen as s
use Rattle.jp_ast.specs.declared.stmt.StmtKind.TheVariants as run
use Rattle.type_rules.specs.Completing.{Leaves, leaves_step, leaves}

at_kind : (x : Stmt) (kind : StmtKind) (l : Leaves) → x.kind ≡ kind → leaves (record { place = x.place; kind = kind }) ≡ l → leaves x ≡ l
at_kind x kind l h e = ap (λ (k : StmtKind). leaves (record { place = x.place; kind = k })) h ∙ e

leaves_list : (xs : List Stmt) → list_all (λ (l : Leaves). l.completes) (map leaves xs) ≡ list_all (λ x. (leaves x).completes) xs
leaves_list [] = refl
leaves_list (x ∷ xs) = ap (λ b. (leaves x).completes && b) (leaves_list xs)

breaks_list : (xs : List Stmt) → list_any (λ (l : Leaves). l.breaks) (map leaves xs) ≡ list_any (λ x. (leaves x).breaks) xs
breaks_list [] = refl
breaks_list (x ∷ xs) = ap (λ b. (leaves x).breaks || b) (breaks_list xs)

pub leaves_block : (x : Stmt) (xs : List Stmt) → x.kind ≡ run.Block xs → leaves x ≡ leaves_step (s.Block (map leaves xs))
leaves_block x xs h = at_kind x _ _ h (rw (fold_out-Stmt, fold_out-StmtKind, run.outs-Block) refl)

pub completes_block : (x : Stmt) (xs : List Stmt) → x.kind ≡ run.Block xs → (leaves x).completes ≡ list_all (λ y. (leaves y).completes) xs
completes_block x xs h = ap (λ (l : Leaves). l.completes) (leaves_block x xs h) ∙ leaves_list xs

pub breaks_block : (x : Stmt) (xs : List Stmt) → x.kind ≡ run.Block xs → (leaves x).breaks ≡ list_any (λ y. (leaves y).breaks) xs
breaks_block x xs h = ap (λ (l : Leaves). l.breaks) (leaves_block x xs h) ∙ breaks_list xs

if_at : (p : Place) (test : Expr) (a : Stmt) (b : Option Stmt) → leaves (record { place = p; kind = run.If test a b }) ≡ leaves_step (s.If test (leaves a) (option_map leaves b))
if_at p test a None = rw (fold_out-Stmt, fold_out-StmtKind, run.outs-If) refl
if_at p test a (Some b) = rw (fold_out-Stmt, fold_out-StmtKind, run.outs-If) refl

pub leaves_if : (x : Stmt) (test : Expr) (a : Stmt) (b : Option Stmt) → x.kind ≡ run.If test a b → leaves x ≡ leaves_step (s.If test (leaves a) (option_map leaves b))
leaves_if x test a b h = at_kind x _ _ h (if_at x.place test a b)

pub leaves_while : (x : Stmt) (test : Expr) (a : Stmt) → x.kind ≡ run.While test a → leaves x ≡ leaves_step (s.While test (leaves a))
leaves_while x test a h = at_kind x _ _ h (rw (fold_out-Stmt, fold_out-StmtKind, run.outs-While) refl)

for_at : (p : Place) (init : Option Stmt) (test : Option Expr) (change : Option Stmt) (a : Stmt) →
    leaves (record { place = p; kind = run.For init test change a }) ≡ leaves_step (s.For (option_map leaves init) test (option_map leaves change) (leaves a))
for_at p None test None a = rw (fold_out-Stmt, fold_out-StmtKind, run.outs-For) refl
for_at p None test (Some change) a = rw (fold_out-Stmt, fold_out-StmtKind, run.outs-For) refl
for_at p (Some init) test None a = rw (fold_out-Stmt, fold_out-StmtKind, run.outs-For) refl
for_at p (Some init) test (Some change) a = rw (fold_out-Stmt, fold_out-StmtKind, run.outs-For) refl

pub leaves_for : (x : Stmt) (init : Option Stmt) (test : Option Expr) (change : Option Stmt) (a : Stmt) → x.kind ≡ run.For init test change a →
    leaves x ≡ leaves_step (s.For (option_map leaves init) test (option_map leaves change) (leaves a))
leaves_for x init test change a h = at_kind x _ _ h (for_at x.place init test change a)

pub leaves_local : (x : Stmt) (t : Ty) (name : Word) (value : Option Expr) → x.kind ≡ run.Local t name value → leaves x ≡ leaves_step (s.Local t name value)
leaves_local x t name value h = at_kind x _ _ h (rw (fold_out-Stmt, fold_out-StmtKind, run.outs-Local) refl)

pub leaves_empty : (x : Stmt) → x.kind ≡ run.Empty → leaves x ≡ leaves_step s.Empty
leaves_empty x h = at_kind x _ _ h (rw (fold_out-Stmt, fold_out-StmtKind, run.outs-Empty) refl)

pub leaves_break : (x : Stmt) → x.kind ≡ run.Break → leaves x ≡ leaves_step s.Break
leaves_break x h = at_kind x _ _ h (rw (fold_out-Stmt, fold_out-StmtKind, run.outs-Break) refl)

pub leaves_continue : (x : Stmt) → x.kind ≡ run.Continue → leaves x ≡ leaves_step s.Continue
leaves_continue x h = at_kind x _ _ h (rw (fold_out-Stmt, fold_out-StmtKind, run.outs-Continue) refl)

pub leaves_return : (x : Stmt) (value : Option Expr) → x.kind ≡ run.Return value → leaves x ≡ leaves_step (s.Return value)
leaves_return x value h = at_kind x _ _ h (rw (fold_out-Stmt, fold_out-StmtKind, run.outs-Return) refl)

pub leaves_assign : (x : Stmt) (y : Expr) (n : ℕ) (z : Expr) → x.kind ≡ run.Assign y n z → leaves x ≡ leaves_step (s.Assign y n z)
leaves_assign x y n z h = at_kind x _ _ h (rw (fold_out-Stmt, fold_out-StmtKind, run.outs-Assign) refl)

pub leaves_bump : (x : Stmt) (y : Expr) (up : Bool) → x.kind ≡ run.Bump y up → leaves x ≡ leaves_step (s.Bump y up)
leaves_bump x y up h = at_kind x _ _ h (rw (fold_out-Stmt, fold_out-StmtKind, run.outs-Bump) refl)

pub leaves_run : (x : Stmt) (y : Expr) → x.kind ≡ run.Run y → leaves x ≡ leaves_step (s.Run y)
leaves_run x y h = at_kind x _ _ h (rw (fold_out-Stmt, fold_out-StmtKind, run.outs-Run) refl)
