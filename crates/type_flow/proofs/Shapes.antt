-- What a statement of each form does, by what its parts do.
use Rattle.std.proofs.Common.{◌≡◌, ℕ, List, map, Bool, true, false, Option, Some, None, refl, ap, ◌∙◌}
use Rattle.std.specs.Option.{option_map}
use Rattle.jp_pred.specs.declared.ty.Ty.{Ty}
use Rattle.jp_pred.specs.Names.{Word}
use Rattle.jp_ast.specs.declared.token.Place.{Place}
use Rattle.jp_ast.specs.declared.expr.Expr.{Expr}
use Rattle.jp_ast.specs.declared.stmt.Stmt.{Stmt}
use Rattle.jp_ast.specs.declared.stmt.Stmt as on_stmts
use Rattle.jp_ast.specs.declared.stmt.StmtKind.{StmtKind, fold_out-StmtKind}
use Rattle.jp_ast.specs.declared.stmt.StmtKind.TheVariants as run
use Rattle.type_rules.specs.Statements.{waiting, Step, Block, Empty, Local, If, While, For, Jump, Return, Assign, Bump, Run, flow_of, flow}
use Rattle.type_rules.proofs.Computing.{run_block, run_nothing, run_local, run_when, run_when_else, run_while, run_break, run_continue, run_return, run_assign, run_bump, run_alone}

-- a statement, as its kind is written
at_kind : (x : Stmt) (kind : StmtKind) (step : Step) → x.kind ≡ kind → flow (record { place = x.place; kind = kind }) ≡ flow_of step x.place → flow x ≡ flow_of step x.place
at_kind x kind step h e = ap (λ (k : StmtKind). flow (record { place = x.place; kind = k })) h ∙ e

pub flow_block : (x : Stmt) (xs : List Stmt) → x.kind ≡ run.Block xs → flow x ≡ flow_of (Block (map flow xs)) x.place
flow_block x xs h = at_kind x _ (Block (map flow xs)) h (run_block flow_of x.place xs)

pub flow_empty : (x : Stmt) → x.kind ≡ run.Empty → flow x ≡ flow_of Empty x.place
flow_empty x h = at_kind x _ Empty h (run_nothing flow_of x.place)

pub flow_local : (x : Stmt) (t : Ty) (name : Word) (value : Option Expr) → x.kind ≡ run.Local t name value → flow x ≡ flow_of (Local t name (option_map waiting value)) x.place
flow_local x t name value h = at_kind x _ (Local t name (option_map waiting value)) h (run_local flow_of x.place t name value)

if_at : (p : Place) (test : Expr) (a : Stmt) (b : Option Stmt) → flow (record { place = p; kind = run.If test a b }) ≡ flow_of (If (waiting test) (flow a) (option_map flow b)) p
if_at p test a None = run_when flow_of p test a
if_at p test a (Some b) = run_when_else flow_of p test a b

pub flow_if : (x : Stmt) (test : Expr) (a : Stmt) (b : Option Stmt) → x.kind ≡ run.If test a b → flow x ≡ flow_of (If (waiting test) (flow a) (option_map flow b)) x.place
flow_if x test a b h = at_kind x _ (If (waiting test) (flow a) (option_map flow b)) h (if_at x.place test a b)

pub flow_while : (x : Stmt) (test : Expr) (body : Stmt) → x.kind ≡ run.While test body → flow x ≡ flow_of (While (waiting test) (flow body)) x.place
flow_while x test body h = at_kind x _ (While (waiting test) (flow body)) h (run_while flow_of x.place test body)

for_at : (p : Place) (init : Option Stmt) (test : Option Expr) (change : Option Stmt) (body : Stmt) →
    flow (record { place = p; kind = run.For init test change body }) ≡ flow_of (For (option_map flow init) (option_map waiting test) (option_map flow change) (flow body)) p
for_at p None test None body = rw (on_stmts.fold_out-Stmt, fold_out-StmtKind, run.outs-For) refl
for_at p None test (Some change) body = rw (on_stmts.fold_out-Stmt, fold_out-StmtKind, run.outs-For) refl
for_at p (Some init) test None body = rw (on_stmts.fold_out-Stmt, fold_out-StmtKind, run.outs-For) refl
for_at p (Some init) test (Some change) body = rw (on_stmts.fold_out-Stmt, fold_out-StmtKind, run.outs-For) refl

pub flow_for : (x : Stmt) (init : Option Stmt) (test : Option Expr) (change : Option Stmt) (body : Stmt) → x.kind ≡ run.For init test change body →
    flow x ≡ flow_of (For (option_map flow init) (option_map waiting test) (option_map flow change) (flow body)) x.place
flow_for x init test change body h = at_kind x _ (For (option_map flow init) (option_map waiting test) (option_map flow change) (flow body)) h (for_at x.place init test change body)

pub flow_break : (x : Stmt) → x.kind ≡ run.Break → flow x ≡ flow_of (Jump true) x.place
flow_break x h = at_kind x _ (Jump true) h (run_break flow_of x.place)

pub flow_continue : (x : Stmt) → x.kind ≡ run.Continue → flow x ≡ flow_of (Jump false) x.place
flow_continue x h = at_kind x _ (Jump false) h (run_continue flow_of x.place)

pub flow_return : (x : Stmt) (value : Option Expr) → x.kind ≡ run.Return value → flow x ≡ flow_of (Return (option_map waiting value)) x.place
flow_return x value h = at_kind x _ (Return (option_map waiting value)) h (run_return flow_of x.place value)

pub flow_assign : (x : Stmt) (y : Expr) (n : ℕ) (z : Expr) → x.kind ≡ run.Assign y n z → flow x ≡ flow_of (Assign (waiting y) n (waiting z)) x.place
flow_assign x y n z h = at_kind x _ (Assign (waiting y) n (waiting z)) h (run_assign flow_of x.place y n z)

pub flow_bump : (x : Stmt) (y : Expr) (up : Bool) → x.kind ≡ run.Bump y up → flow x ≡ flow_of (Bump (waiting y) up) x.place
flow_bump x y up h = at_kind x _ (Bump (waiting y) up) h (run_bump flow_of x.place y up)

pub flow_alone : (x : Stmt) (y : Expr) → x.kind ≡ run.Run y → flow x ≡ flow_of (Run (waiting y)) x.place
flow_alone x y h = at_kind x _ (Run (waiting y)) h (run_alone flow_of x.place y)
