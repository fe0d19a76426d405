-- What samples come to, computed from their parts.
use Rattle.std.proofs.Common.{◌≡◌, ℕ, List, [], ◌∷◌, map, Option, Some, None, Bool, true, false, refl, ap, ◌∙◌}
use Rattle.std.specs.Prelude.{◌&&◌}
use Rattle.std.specs.Option.{option_map}
use Rattle.jp_pred.specs.declared.ty.Ty.{Ty}
use Rattle.jp_pred.specs.Names.{Word}
use Rattle.iface_codec.specs.declared.iface.Iface.{Iface}
use Rattle.jp_ast.specs.declared.token.Place.{Place}
use Rattle.jp_ast.specs.declared.expr.Expr.{Expr, fold-Expr}
use Rattle.jp_ast.specs.declared.expr.Expr as on_exprs
use Rattle.jp_ast.specs.declared.expr.ExprKind.{fold_out-ExprKind}
use Rattle.jp_ast.specs.declared.expr.ExprKind.TheVariants as form
use Rattle.jp_ast.specs.declared.expr.ExprKind.TheOpen as e
use Rattle.jp_ast.specs.declared.stmt.Stmt.{Stmt, fold-Stmt}
use Rattle.jp_ast.specs.declared.stmt.Stmt as on_stmts
use Rattle.jp_ast.specs.declared.stmt.StmtKind.{StmtKind-F, fold_out-StmtKind}
use Rattle.jp_ast.specs.declared.stmt.StmtKind.TheVariants as run
use Rattle.jp_ast.specs.declared.stmt.StmtKind.TheOpen as s
use Rattle.jp_ast.specs.declared.guard.GuardExpr.{GuardExpr, fold-GuardExpr}
use Rattle.jp_ast.specs.declared.guard.GuardExpr as on_guards
use Rattle.jp_ast.specs.declared.guard.GuardKind.{GuardKind-F, fold_out-GuardKind}
use Rattle.jp_ast.specs.declared.guard.GuardKind.TheVariants as test
use Rattle.jp_ast.specs.declared.guard.GuardKind.TheOpen as g
use Rattle.jp_ast.specs.declared.guard.PathText.{PathText}
use Rattle.jp_ast.specs.declared.guard.Summand.{Summand}
use Rattle.jp_meaning.specs.declared.unit.TypedUnit.{TypedUnit}
use Rattle.type_rules.specs.declared.fault.TypeFault.{TypeFault}
use Rattle.type_rules.specs.declared.scope.Scope.{Scope}
use Rattle.type_rules.specs.declared.guard_scope.GuardScope.{GuardScope}
use Rattle.type_rules.specs.declared.seen.Role.{Role}
use Rattle.type_rules.specs.Written.{Form, IsTruth, IsVariable, IsCall, IsOther, form_of, is_true}
use Rattle.type_rules.specs.Heads.{heads_of}
use Rattle.type_rules.specs.Table.{faults_of}
use Rattle.type_rules.specs.Expressions.{Part, Layer, part_of as whole_of, placed}
use Rattle.type_rules.specs.Statements.{Flow, Waiting, waiting, Step, Block, Empty, Local, If, While, For, Jump, Return, Assign, Bump, Run as Alone, step_of, flow_of, flow}
use Rattle.type_rules.specs.Completing.{Leaves, leaves_step, loop_leaves, can_complete}
use Rattle.type_rules.specs.Guards.{Guarded, guarded_of, guarded}
use Rattle.type_rules.specs.Units.{Opened, OpenDecl, opened, open_decl, guard_part, super_part, block_part, visits_in, unit_in, made_unit}
use Rattle.type_rules.specs.Typing.{earlier, first_fault}
use Rattle.type_rules.specs.Samples.{Tree, Trees, number, truth, null, text, this, name, sign, binary, choice, cast, instance, field, element, call, call_on, call_super, make, make_array, end, then, at, expr, exprs}
use Rattle.type_rules.specs.Samples.{Line, Lines, block, nothing, local, when, when_else, while, for_ever, for, break, continue, return, assign, bump, alone, done, go, stmt, stmts}
use Rattle.type_rules.specs.Samples.{Test, given, not', and', or', is, alias, null_test, flag, compare, guard}
use Rattle.type_rules.specs.Samples.{Body, a_field, a_static, an_abstract, a_body, a_constructor, part_of, Piece, member_of, Sample, decl_of, unit}

-- EXPRESSIONS

abbrev pub Walk : Type 0
Walk = Layer → Place → Role → Part

abbrev pub walk : Walk → Expr → Role → Part
walk f = fold-Expr (Place → Role → Part) (Role → Part) f (λ x. x.kind x.place)

abbrev mutual
  pub walk' : Walk → Tree → Role → Part
  walk' f (number p n hex) = f (e.Number n hex) (at p)
  walk' f (truth p v) = f (e.Truth v) (at p)
  walk' f (null p) = f e.Null (at p)
  walk' f (text p t) = f (e.Text t) (at p)
  walk' f (this p) = f e.This (at p)
  walk' f (name p n) = f (e.Var n) (at p)
  walk' f (sign p n x) = f (e.Unary n (walk' f x)) (at p)
  walk' f (binary p n x y) = f (e.Binary n (walk' f x) (walk' f y)) (at p)
  walk' f (choice p x y z) = f (e.Cond (walk' f x) (walk' f y) (walk' f z)) (at p)
  walk' f (cast p c x) = f (e.Cast c (walk' f x)) (at p)
  walk' f (instance p x c) = f (e.InstanceOf (walk' f x) c) (at p)
  walk' f (field p x n) = f (e.Field (walk' f x) n) (at p)
  walk' f (element p x y) = f (e.Index (walk' f x) (walk' f y)) (at p)
  walk' f (call p n xs) = f (e.Call None n (walks' f xs)) (at p)
  walk' f (call_on p x n xs) = f (e.Call (Some (walk' f x)) n (walks' f xs)) (at p)
  walk' f (call_super p n xs) = f (e.SuperCall n (walks' f xs)) (at p)
  walk' f (make p c xs) = f (e.New c (walks' f xs)) (at p)
  walk' f (make_array p t x) = f (e.NewArray t (walk' f x)) (at p)

  pub walks' : Walk → Trees → List (Role → Part)
  walks' f end = []
  walks' f (then x xs) = walk' f x ∷ walks' f xs

pub walk_number : (f : Walk) (p : Place) (n : ℕ) (hex : Bool) → walk f (record { place = p; kind = form.Number n hex }) ≡ f (e.Number n hex) p
walk_number f p n hex = rw (on_exprs.fold_out-Expr, fold_out-ExprKind, form.outs-Number) refl

pub walk_truth : (f : Walk) (p : Place) (v : Bool) → walk f (record { place = p; kind = form.Truth v }) ≡ f (e.Truth v) p
walk_truth f p v = rw (on_exprs.fold_out-Expr, fold_out-ExprKind, form.outs-Truth) refl

pub walk_null : (f : Walk) (p : Place) → walk f (record { place = p; kind = form.Null }) ≡ f e.Null p
walk_null f p = rw (on_exprs.fold_out-Expr, fold_out-ExprKind, form.outs-Null) refl

pub walk_text : (f : Walk) (p : Place) (t : Word) → walk f (record { place = p; kind = form.Text t }) ≡ f (e.Text t) p
walk_text f p t = rw (on_exprs.fold_out-Expr, fold_out-ExprKind, form.outs-Text) refl

pub walk_this : (f : Walk) (p : Place) → walk f (record { place = p; kind = form.This }) ≡ f e.This p
walk_this f p = rw (on_exprs.fold_out-Expr, fold_out-ExprKind, form.outs-This) refl

pub walk_name : (f : Walk) (p : Place) (n : Word) → walk f (record { place = p; kind = form.Var n }) ≡ f (e.Var n) p
walk_name f p n = rw (on_exprs.fold_out-Expr, fold_out-ExprKind, form.outs-Var) refl

pub walk_sign : (f : Walk) (p : Place) (n : ℕ) (x : Expr) → walk f (record { place = p; kind = form.Unary n x }) ≡ f (e.Unary n (walk f x)) p
walk_sign f p n x = rw (on_exprs.fold_out-Expr, fold_out-ExprKind, form.outs-Unary) refl

pub walk_binary : (f : Walk) (p : Place) (n : ℕ) (x y : Expr) → walk f (record { place = p; kind = form.Binary n x y }) ≡ f (e.Binary n (walk f x) (walk f y)) p
walk_binary f p n x y = rw (on_exprs.fold_out-Expr, fold_out-ExprKind, form.outs-Binary) refl

pub walk_choice : (f : Walk) (p : Place) (x y z : Expr) → walk f (record { place = p; kind = form.Cond x y z }) ≡ f (e.Cond (walk f x) (walk f y) (walk f z)) p
walk_choice f p x y z = rw (on_exprs.fold_out-Expr, fold_out-ExprKind, form.outs-Cond) refl

pub walk_cast : (f : Walk) (p : Place) (c : Word) (x : Expr) → walk f (record { place = p; kind = form.Cast c x }) ≡ f (e.Cast c (walk f x)) p
walk_cast f p c x = rw (on_exprs.fold_out-Expr, fold_out-ExprKind, form.outs-Cast) refl

pub walk_instance : (f : Walk) (p : Place) (x : Expr) (c : Word) → walk f (record { place = p; kind = form.InstanceOf x c }) ≡ f (e.InstanceOf (walk f x) c) p
walk_instance f p x c = rw (on_exprs.fold_out-Expr, fold_out-ExprKind, form.outs-InstanceOf) refl

pub walk_field : (f : Walk) (p : Place) (x : Expr) (n : Word) → walk f (record { place = p; kind = form.Field x n }) ≡ f (e.Field (walk f x) n) p
walk_field f p x n = rw (on_exprs.fold_out-Expr, fold_out-ExprKind, form.outs-Field) refl

pub walk_element : (f : Walk) (p : Place) (x y : Expr) → walk f (record { place = p; kind = form.Index x y }) ≡ f (e.Index (walk f x) (walk f y)) p
walk_element f p x y = rw (on_exprs.fold_out-Expr, fold_out-ExprKind, form.outs-Index) refl

pub walk_call : (f : Walk) (p : Place) (n : Word) (xs : List Expr) → walk f (record { place = p; kind = form.Call None n xs }) ≡ f (e.Call None n (map (walk f) xs)) p
walk_call f p n xs = rw (on_exprs.fold_out-Expr, fold_out-ExprKind, form.outs-Call) refl

pub walk_call_on : (f : Walk) (p : Place) (x : Expr) (n : Word) (xs : List Expr) → walk f (record { place = p; kind = form.Call (Some x) n xs }) ≡ f (e.Call (Some (walk f x)) n (map (walk f) xs)) p
walk_call_on f p x n xs = rw (on_exprs.fold_out-Expr, fold_out-ExprKind, form.outs-Call) refl

pub walk_call_super : (f : Walk) (p : Place) (n : Word) (xs : List Expr) → walk f (record { place = p; kind = form.SuperCall n xs }) ≡ f (e.SuperCall n (map (walk f) xs)) p
walk_call_super f p n xs = rw (on_exprs.fold_out-Expr, fold_out-ExprKind, form.outs-SuperCall) refl

pub walk_make : (f : Walk) (p : Place) (c : Word) (xs : List Expr) → walk f (record { place = p; kind = form.New c xs }) ≡ f (e.New c (map (walk f) xs)) p
walk_make f p c xs = rw (on_exprs.fold_out-Expr, fold_out-ExprKind, form.outs-New) refl

pub walk_make_array : (f : Walk) (p : Place) (t : Ty) (x : Expr) → walk f (record { place = p; kind = form.NewArray t x }) ≡ f (e.NewArray t (walk f x)) p
walk_make_array f p t x = rw (on_exprs.fold_out-Expr, fold_out-ExprKind, form.outs-NewArray) refl

mutual
  walk_is : (f : Walk) (x : Tree) → walk f (expr x) ≡ walk' f x
  walk_is f (number p n hex) = walk_number f (at p) n hex
  walk_is f (truth p v) = walk_truth f (at p) v
  walk_is f (null p) = walk_null f (at p)
  walk_is f (text p t) = walk_text f (at p) t
  walk_is f (this p) = walk_this f (at p)
  walk_is f (name p n) = walk_name f (at p) n
  walk_is f (sign p n x) = walk_sign f (at p) n (expr x) ∙ (λ i. f (e.Unary n (walk_is f x i)) (at p))
  walk_is f (binary p n x y) = walk_binary f (at p) n (expr x) (expr y) ∙ (λ i. f (e.Binary n (walk_is f x i) (walk_is f y i)) (at p))
  walk_is f (choice p x y z) = walk_choice f (at p) (expr x) (expr y) (expr z) ∙ (λ i. f (e.Cond (walk_is f x i) (walk_is f y i) (walk_is f z i)) (at p))
  walk_is f (cast p c x) = walk_cast f (at p) c (expr x) ∙ (λ i. f (e.Cast c (walk_is f x i)) (at p))
  walk_is f (instance p x c) = walk_instance f (at p) (expr x) c ∙ (λ i. f (e.InstanceOf (walk_is f x i) c) (at p))
  walk_is f (field p x n) = walk_field f (at p) (expr x) n ∙ (λ i. f (e.Field (walk_is f x i) n) (at p))
  walk_is f (element p x y) = walk_element f (at p) (expr x) (expr y) ∙ (λ i. f (e.Index (walk_is f x i) (walk_is f y i)) (at p))
  walk_is f (call p n xs) = walk_call f (at p) n (exprs xs) ∙ (λ i. f (e.Call None n (walks_are f xs i)) (at p))
  walk_is f (call_on p x n xs) = walk_call_on f (at p) (expr x) n (exprs xs) ∙ (λ i. f (e.Call (Some (walk_is f x i)) n (walks_are f xs i)) (at p))
  walk_is f (call_super p n xs) = walk_call_super f (at p) n (exprs xs) ∙ (λ i. f (e.SuperCall n (walks_are f xs i)) (at p))
  walk_is f (make p c xs) = walk_make f (at p) c (exprs xs) ∙ (λ i. f (e.New c (walks_are f xs i)) (at p))
  walk_is f (make_array p t x) = walk_make_array f (at p) t (expr x) ∙ (λ i. f (e.NewArray t (walk_is f x i)) (at p))

  walks_are : (f : Walk) (xs : Trees) → map (walk f) (exprs xs) ≡ walks' f xs
  walks_are f end = refl
  walks_are f (then x xs) = λ i. walk_is f x i ∷ walks_are f xs i

-- how an expression is written
abbrev pub form' : Tree → Form
form' (number p n hex) = IsOther
form' (truth p v) = IsTruth v
form' (null p) = IsOther
form' (text p t) = IsOther
form' (this p) = IsOther
form' (name p n) = IsVariable
form' (sign p n x) = IsOther
form' (binary p n x y) = IsOther
form' (choice p x y z) = IsOther
form' (cast p c x) = IsOther
form' (instance p x c) = IsOther
form' (field p x n) = IsVariable
form' (element p x y) = IsVariable
form' (call p n xs) = IsCall
form' (call_on p x n xs) = IsCall
form' (call_super p n xs) = IsCall
form' (make p c xs) = IsCall
form' (make_array p t x) = IsOther

form_is : (x : Tree) → form_of (expr x) ≡ form' x
form_is (number p n hex) = rw form.outs-Number refl
form_is (truth p v) = rw form.outs-Truth refl
form_is (null p) = rw form.outs-Null refl
form_is (text p t) = rw form.outs-Text refl
form_is (this p) = rw form.outs-This refl
form_is (name p n) = rw form.outs-Var refl
form_is (sign p n x) = rw form.outs-Unary refl
form_is (binary p n x y) = rw form.outs-Binary refl
form_is (choice p x y z) = rw form.outs-Cond refl
form_is (cast p c x) = rw form.outs-Cast refl
form_is (instance p x c) = rw form.outs-InstanceOf refl
form_is (field p x n) = rw form.outs-Field refl
form_is (element p x y) = rw form.outs-Index refl
form_is (call p n xs) = rw form.outs-Call refl
form_is (call_on p x n xs) = rw form.outs-Call refl
form_is (call_super p n xs) = rw form.outs-SuperCall refl
form_is (make p c xs) = rw form.outs-New refl
form_is (make_array p t x) = rw form.outs-NewArray refl

-- STATEMENTS

abbrev pub stepped : Scope → Walk
stepped c l p r = whole_of c p r (placed l)

abbrev pub waiting' : Tree → Waiting
waiting' x = record { form = form' x; part = λ c. walk' (stepped c) x }

waits : (x : Tree) → waiting (expr x) ≡ waiting' x
waits x = λ i. record { form = form_is x i; part = λ c. walk_is (stepped c) x i }

abbrev pub waiting_all : Trees → List Waiting
waiting_all end = []
waiting_all (then x xs) = waiting' x ∷ waiting_all xs

waits_all : (xs : Trees) → map waiting (exprs xs) ≡ waiting_all xs
waits_all end = refl
waits_all (then x xs) = λ i. waits x i ∷ waits_all xs i

waits_option : (x : Option Tree) → option_map waiting (option_map expr x) ≡ option_map waiting' x
waits_option None = refl
waits_option (Some x) = λ i. Some (waits x i)

abbrev pub Run : Type 0
Run = Step → Place → Scope → Flow

abbrev pub runs : Run → Stmt → Scope → Flow
runs f = fold-Stmt (Place → Scope → Flow) (Scope → Flow) (λ kind. f (step_of kind)) (λ x. x.kind x.place)

abbrev mutual
  pub run' : Run → Line → Scope → Flow
  run' f (block p xs) = f (Block (runs' f xs)) (at p)
  run' f (nothing p) = f Empty (at p)
  run' f (local p t n x) = f (Local t n (option_map waiting' x)) (at p)
  run' f (when p x a) = f (If (waiting' x) (run' f a) None) (at p)
  run' f (when_else p x a b) = f (If (waiting' x) (run' f a) (Some (run' f b))) (at p)
  run' f (while p x a) = f (While (waiting' x) (run' f a)) (at p)
  run' f (for_ever p a) = f (For None None None (run' f a)) (at p)
  run' f (for p d x b a) = f (For (Some (run' f d)) (Some (waiting' x)) (Some (run' f b)) (run' f a)) (at p)
  run' f (break p) = f (Jump true) (at p)
  run' f (continue p) = f (Jump false) (at p)
  run' f (return p x) = f (Return (option_map waiting' x)) (at p)
  run' f (assign p x n y) = f (Assign (waiting' x) n (waiting' y)) (at p)
  run' f (bump p x up) = f (Bump (waiting' x) up) (at p)
  run' f (alone p x) = f (Alone (waiting' x)) (at p)

  pub runs' : Run → Lines → List (Scope → Flow)
  runs' f done = []
  runs' f (go x xs) = run' f x ∷ runs' f xs

pub run_block : (f : Run) (p : Place) (xs : List Stmt) → runs f (record { place = p; kind = run.Block xs }) ≡ f (Block (map (runs f) xs)) p
run_block f p xs = rw (on_stmts.fold_out-Stmt, fold_out-StmtKind, run.outs-Block) refl

pub run_nothing : (f : Run) (p : Place) → runs f (record { place = p; kind = run.Empty }) ≡ f Empty p
run_nothing f p = rw (on_stmts.fold_out-Stmt, fold_out-StmtKind, run.outs-Empty) refl

pub run_local : (f : Run) (p : Place) (t : Ty) (n : Word) (x : Option Expr) → runs f (record { place = p; kind = run.Local t n x }) ≡ f (Local t n (option_map waiting x)) p
run_local f p t n x = rw (on_stmts.fold_out-Stmt, fold_out-StmtKind, run.outs-Local) refl

pub run_when : (f : Run) (p : Place) (x : Expr) (a : Stmt) → runs f (record { place = p; kind = run.If x a None }) ≡ f (If (waiting x) (runs f a) None) p
run_when f p x a = rw (on_stmts.fold_out-Stmt, fold_out-StmtKind, run.outs-If) refl

pub run_when_else : (f : Run) (p : Place) (x : Expr) (a b : Stmt) → runs f (record { place = p; kind = run.If x a (Some b) }) ≡ f (If (waiting x) (runs f a) (Some (runs f b))) p
run_when_else f p x a b = rw (on_stmts.fold_out-Stmt, fold_out-StmtKind, run.outs-If) refl

pub run_while : (f : Run) (p : Place) (x : Expr) (a : Stmt) → runs f (record { place = p; kind = run.While x a }) ≡ f (While (waiting x) (runs f a)) p
run_while f p x a = rw (on_stmts.fold_out-Stmt, fold_out-StmtKind, run.outs-While) refl

pub run_for_ever : (f : Run) (p : Place) (a : Stmt) → runs f (record { place = p; kind = run.For None None None a }) ≡ f (For None None None (runs f a)) p
run_for_ever f p a = rw (on_stmts.fold_out-Stmt, fold_out-StmtKind, run.outs-For) refl

pub run_for : (f : Run) (p : Place) (d : Stmt) (x : Expr) (b a : Stmt) → runs f (record { place = p; kind = run.For (Some d) (Some x) (Some b) a }) ≡ f (For (Some (runs f d)) (Some (waiting x)) (Some (runs f b)) (runs f a)) p
run_for f p d x b a = rw (on_stmts.fold_out-Stmt, fold_out-StmtKind, run.outs-For) refl

pub run_break : (f : Run) (p : Place) → runs f (record { place = p; kind = run.Break }) ≡ f (Jump true) p
run_break f p = rw (on_stmts.fold_out-Stmt, fold_out-StmtKind, run.outs-Break) refl

pub run_continue : (f : Run) (p : Place) → runs f (record { place = p; kind = run.Continue }) ≡ f (Jump false) p
run_continue f p = rw (on_stmts.fold_out-Stmt, fold_out-StmtKind, run.outs-Continue) refl

pub run_return : (f : Run) (p : Place) (x : Option Expr) → runs f (record { place = p; kind = run.Return x }) ≡ f (Return (option_map waiting x)) p
run_return f p x = rw (on_stmts.fold_out-Stmt, fold_out-StmtKind, run.outs-Return) refl

pub run_assign : (f : Run) (p : Place) (x : Expr) (n : ℕ) (y : Expr) → runs f (record { place = p; kind = run.Assign x n y }) ≡ f (Assign (waiting x) n (waiting y)) p
run_assign f p x n y = rw (on_stmts.fold_out-Stmt, fold_out-StmtKind, run.outs-Assign) refl

pub run_bump : (f : Run) (p : Place) (x : Expr) (up : Bool) → runs f (record { place = p; kind = run.Bump x up }) ≡ f (Bump (waiting x) up) p
run_bump f p x up = rw (on_stmts.fold_out-Stmt, fold_out-StmtKind, run.outs-Bump) refl

pub run_alone : (f : Run) (p : Place) (x : Expr) → runs f (record { place = p; kind = run.Run x }) ≡ f (Alone (waiting x)) p
run_alone f p x = rw (on_stmts.fold_out-Stmt, fold_out-StmtKind, run.outs-Run) refl

mutual
  run_is : (f : Run) (x : Line) → runs f (stmt x) ≡ run' f x
  run_is f (block p xs) = run_block f (at p) (stmts xs) ∙ (λ i. f (Block (runs_are f xs i)) (at p))
  run_is f (nothing p) = run_nothing f (at p)
  run_is f (local p t n x) = run_local f (at p) t n (option_map expr x) ∙ (λ i. f (Local t n (waits_option x i)) (at p))
  run_is f (when p x a) = run_when f (at p) (expr x) (stmt a) ∙ (λ i. f (If (waits x i) (run_is f a i) None) (at p))
  run_is f (when_else p x a b) = run_when_else f (at p) (expr x) (stmt a) (stmt b) ∙ (λ i. f (If (waits x i) (run_is f a i) (Some (run_is f b i))) (at p))
  run_is f (while p x a) = run_while f (at p) (expr x) (stmt a) ∙ (λ i. f (While (waits x i) (run_is f a i)) (at p))
  run_is f (for_ever p a) = run_for_ever f (at p) (stmt a) ∙ (λ i. f (For None None None (run_is f a i)) (at p))
  run_is f (for p d x b a) = run_for f (at p) (stmt d) (expr x) (stmt b) (stmt a) ∙ (λ i. f (For (Some (run_is f d i)) (Some (waits x i)) (Some (run_is f b i)) (run_is f a i)) (at p))
  run_is f (break p) = run_break f (at p)
  run_is f (continue p) = run_continue f (at p)
  run_is f (return p x) = run_return f (at p) (option_map expr x) ∙ (λ i. f (Return (waits_option x i)) (at p))
  run_is f (assign p x n y) = run_assign f (at p) (expr x) n (expr y) ∙ (λ i. f (Assign (waits x i) n (waits y i)) (at p))
  run_is f (bump p x up) = run_bump f (at p) (expr x) up ∙ (λ i. f (Bump (waits x i) up) (at p))
  run_is f (alone p x) = run_alone f (at p) (expr x) ∙ (λ i. f (Alone (waits x i)) (at p))

  runs_are : (f : Run) (xs : Lines) → map (runs f) (stmts xs) ≡ runs' f xs
  runs_are f done = refl
  runs_are f (go x xs) = λ i. run_is f x i ∷ runs_are f xs i

-- which statements can complete
abbrev pub Leave : Type 0
Leave = StmtKind-F Leaves Leaves → Leaves

abbrev pub leave : Leave → Stmt → Leaves
leave f = fold-Stmt Leaves Leaves f (λ x. x.kind)

abbrev mutual
  pub leaving : Line → Leaves
  leaving (block p xs) = leaves_step (s.Block (leavings xs))
  leaving (nothing p) = leaves_step s.Empty
  leaving (local p t n x) = leaves_step (s.Local t n (option_map expr x))
  leaving (when p x a) = leaves_step (s.If (expr x) (leaving a) None)
  leaving (when_else p x a b) = leaves_step (s.If (expr x) (leaving a) (Some (leaving b)))
  leaving (while p x a) = loop_leaves (is_true (form' x)) (leaving a)
  leaving (for_ever p a) = leaves_step (s.For None None None (leaving a))
  leaving (for p d x b a) = loop_leaves (is_true (form' x)) (leaving a)
  leaving (break p) = leaves_step s.Break
  leaving (continue p) = leaves_step s.Continue
  leaving (return p x) = leaves_step (s.Return (option_map expr x))
  leaving (assign p x n y) = leaves_step (s.Assign (expr x) n (expr y))
  leaving (bump p x up) = leaves_step (s.Bump (expr x) up)
  leaving (alone p x) = leaves_step (s.Run (expr x))

  pub leavings : Lines → List Leaves
  leavings done = []
  leavings (go x xs) = leaving x ∷ leavings xs

pub leave_block : (f : Leave) (p : Place) (xs : List Stmt) → leave f (record { place = p; kind = run.Block xs }) ≡ f (s.Block (map (leave f) xs))
leave_block f p xs = rw (on_stmts.fold_out-Stmt, fold_out-StmtKind, run.outs-Block) refl

pub leave_nothing : (f : Leave) (p : Place) → leave f (record { place = p; kind = run.Empty }) ≡ f s.Empty
leave_nothing f p = rw (on_stmts.fold_out-Stmt, fold_out-StmtKind, run.outs-Empty) refl

pub leave_local : (f : Leave) (p : Place) (t : Ty) (n : Word) (x : Option Expr) → leave f (record { place = p; kind = run.Local t n x }) ≡ f (s.Local t n x)
leave_local f p t n x = rw (on_stmts.fold_out-Stmt, fold_out-StmtKind, run.outs-Local) refl

pub leave_when : (f : Leave) (p : Place) (x : Expr) (a : Stmt) → leave f (record { place = p; kind = run.If x a None }) ≡ f (s.If x (leave f a) None)
leave_when f p x a = rw (on_stmts.fold_out-Stmt, fold_out-StmtKind, run.outs-If) refl

pub leave_when_else : (f : Leave) (p : Place) (x : Expr) (a b : Stmt) → leave f (record { place = p; kind = run.If x a (Some b) }) ≡ f (s.If x (leave f a) (Some (leave f b)))
leave_when_else f p x a b = rw (on_stmts.fold_out-Stmt, fold_out-StmtKind, run.outs-If) refl

pub leave_while : (f : Leave) (p : Place) (x : Expr) (a : Stmt) → leave f (record { place = p; kind = run.While x a }) ≡ f (s.While x (leave f a))
leave_while f p x a = rw (on_stmts.fold_out-Stmt, fold_out-StmtKind, run.outs-While) refl

pub leave_for_ever : (f : Leave) (p : Place) (a : Stmt) → leave f (record { place = p; kind = run.For None None None a }) ≡ f (s.For None None None (leave f a))
leave_for_ever f p a = rw (on_stmts.fold_out-Stmt, fold_out-StmtKind, run.outs-For) refl

pub leave_for : (f : Leave) (p : Place) (d : Stmt) (x : Expr) (b a : Stmt) → leave f (record { place = p; kind = run.For (Some d) (Some x) (Some b) a }) ≡ f (s.For (Some (leave f d)) (Some x) (Some (leave f b)) (leave f a))
leave_for f p d x b a = rw (on_stmts.fold_out-Stmt, fold_out-StmtKind, run.outs-For) refl

pub leave_break : (f : Leave) (p : Place) → leave f (record { place = p; kind = run.Break }) ≡ f s.Break
leave_break f p = rw (on_stmts.fold_out-Stmt, fold_out-StmtKind, run.outs-Break) refl

pub leave_continue : (f : Leave) (p : Place) → leave f (record { place = p; kind = run.Continue }) ≡ f s.Continue
leave_continue f p = rw (on_stmts.fold_out-Stmt, fold_out-StmtKind, run.outs-Continue) refl

pub leave_return : (f : Leave) (p : Place) (x : Option Expr) → leave f (record { place = p; kind = run.Return x }) ≡ f (s.Return x)
leave_return f p x = rw (on_stmts.fold_out-Stmt, fold_out-StmtKind, run.outs-Return) refl

pub leave_assign : (f : Leave) (p : Place) (x : Expr) (n : ℕ) (y : Expr) → leave f (record { place = p; kind = run.Assign x n y }) ≡ f (s.Assign x n y)
leave_assign f p x n y = rw (on_stmts.fold_out-Stmt, fold_out-StmtKind, run.outs-Assign) refl

pub leave_bump : (f : Leave) (p : Place) (x : Expr) (up : Bool) → leave f (record { place = p; kind = run.Bump x up }) ≡ f (s.Bump x up)
leave_bump f p x up = rw (on_stmts.fold_out-Stmt, fold_out-StmtKind, run.outs-Bump) refl

pub leave_alone : (f : Leave) (p : Place) (x : Expr) → leave f (record { place = p; kind = run.Run x }) ≡ f (s.Run x)
leave_alone f p x = rw (on_stmts.fold_out-Stmt, fold_out-StmtKind, run.outs-Run) refl

mutual
  leave_is : (x : Line) → leave leaves_step (stmt x) ≡ leaving x
  leave_is (block p xs) = leave_block leaves_step (at p) (stmts xs) ∙ (λ i. leaves_step (s.Block (leaves_are xs i)))
  leave_is (nothing p) = leave_nothing leaves_step (at p)
  leave_is (local p t n x) = leave_local leaves_step (at p) t n (option_map expr x)
  leave_is (when p x a) = leave_when leaves_step (at p) (expr x) (stmt a) ∙ (λ i. leaves_step (s.If (expr x) (leave_is a i) None))
  leave_is (when_else p x a b) = leave_when_else leaves_step (at p) (expr x) (stmt a) (stmt b) ∙ (λ i. leaves_step (s.If (expr x) (leave_is a i) (Some (leave_is b i))))
  leave_is (while p x a) = leave_while leaves_step (at p) (expr x) (stmt a) ∙ (λ i. loop_leaves (is_true (form_is x i)) (leave_is a i))
  leave_is (for_ever p a) = leave_for_ever leaves_step (at p) (stmt a) ∙ (λ i. leaves_step (s.For None None None (leave_is a i)))
  leave_is (for p d x b a) = leave_for leaves_step (at p) (stmt d) (expr x) (stmt b) (stmt a) ∙ (λ i. loop_leaves (is_true (form_is x i)) (leave_is a i))
  leave_is (break p) = leave_break leaves_step (at p)
  leave_is (continue p) = leave_continue leaves_step (at p)
  leave_is (return p x) = leave_return leaves_step (at p) (option_map expr x)
  leave_is (assign p x n y) = leave_assign leaves_step (at p) (expr x) n (expr y)
  leave_is (bump p x up) = leave_bump leaves_step (at p) (expr x) up
  leave_is (alone p x) = leave_alone leaves_step (at p) (expr x)

  leaves_are : (xs : Lines) → map (leave leaves_step) (stmts xs) ≡ leavings xs
  leaves_are done = refl
  leaves_are (go x xs) = λ i. leave_is x i ∷ leaves_are xs i

-- GUARDS

abbrev pub Judge : Type 0
Judge = GuardKind-F (Place → GuardScope → Guarded) (GuardScope → Guarded) → Place → GuardScope → Guarded

abbrev pub judge : Judge → GuardExpr → GuardScope → Guarded
judge f = fold-GuardExpr (Place → GuardScope → Guarded) (GuardScope → Guarded) f (λ x. x.kind x.place)

abbrev pub judge' : Judge → Test → GuardScope → Guarded
judge' f (given p v) = f (g.Truth v) (at p)
judge' f (not' p x) = f (g.Not (judge' f x)) (at p)
judge' f (and' p x y) = f (g.And (judge' f x) (judge' f y)) (at p)
judge' f (or' p x y) = f (g.Or (judge' f x) (judge' f y)) (at p)
judge' f (is p path c n) = f (g.Is path c n) (at p)
judge' f (alias p path n) = f (g.Alias path n) (at p)
judge' f (null_test p path equal) = f (g.NullTest path equal) (at p)
judge' f (flag p path) = f (g.Flag path) (at p)
judge' f (compare p xs n ys) = f (g.Compare xs n ys) (at p)

pub judge_given : (f : Judge) (p : Place) (v : Bool) → judge f (record { place = p; kind = test.Truth v }) ≡ f (g.Truth v) p
judge_given f p v = rw (on_guards.fold_out-GuardExpr, fold_out-GuardKind, test.outs-Truth) refl

pub judge_not : (f : Judge) (p : Place) (x : GuardExpr) → judge f (record { place = p; kind = test.Not x }) ≡ f (g.Not (judge f x)) p
judge_not f p x = rw (on_guards.fold_out-GuardExpr, fold_out-GuardKind, test.outs-Not) refl

pub judge_and : (f : Judge) (p : Place) (x y : GuardExpr) → judge f (record { place = p; kind = test.And x y }) ≡ f (g.And (judge f x) (judge f y)) p
judge_and f p x y = rw (on_guards.fold_out-GuardExpr, fold_out-GuardKind, test.outs-And) refl

pub judge_or : (f : Judge) (p : Place) (x y : GuardExpr) → judge f (record { place = p; kind = test.Or x y }) ≡ f (g.Or (judge f x) (judge f y)) p
judge_or f p x y = rw (on_guards.fold_out-GuardExpr, fold_out-GuardKind, test.outs-Or) refl

pub judge_is : (f : Judge) (p : Place) (path : PathText) (c : Word) (n : Option Word) → judge f (record { place = p; kind = test.Is path c n }) ≡ f (g.Is path c n) p
judge_is f p path c n = rw (on_guards.fold_out-GuardExpr, fold_out-GuardKind, test.outs-Is) refl

pub judge_alias : (f : Judge) (p : Place) (path : PathText) (n : Word) → judge f (record { place = p; kind = test.Alias path n }) ≡ f (g.Alias path n) p
judge_alias f p path n = rw (on_guards.fold_out-GuardExpr, fold_out-GuardKind, test.outs-Alias) refl

pub judge_null_test : (f : Judge) (p : Place) (path : PathText) (equal : Bool) → judge f (record { place = p; kind = test.NullTest path equal }) ≡ f (g.NullTest path equal) p
judge_null_test f p path equal = rw (on_guards.fold_out-GuardExpr, fold_out-GuardKind, test.outs-NullTest) refl

pub judge_flag : (f : Judge) (p : Place) (path : PathText) → judge f (record { place = p; kind = test.Flag path }) ≡ f (g.Flag path) p
judge_flag f p path = rw (on_guards.fold_out-GuardExpr, fold_out-GuardKind, test.outs-Flag) refl

pub judge_compare : (f : Judge) (p : Place) (xs : List Summand) (n : ℕ) (ys : List Summand) → judge f (record { place = p; kind = test.Compare xs n ys }) ≡ f (g.Compare xs n ys) p
judge_compare f p xs n ys = rw (on_guards.fold_out-GuardExpr, fold_out-GuardKind, test.outs-Compare) refl

judged : (f : Judge) (x : Test) → judge f (guard x) ≡ judge' f x
judged f (given p v) = judge_given f (at p) v
judged f (not' p x) = judge_not f (at p) (guard x) ∙ (λ i. f (g.Not (judged f x i)) (at p))
judged f (and' p x y) = judge_and f (at p) (guard x) (guard y) ∙ (λ i. f (g.And (judged f x i) (judged f y i)) (at p))
judged f (or' p x y) = judge_or f (at p) (guard x) (guard y) ∙ (λ i. f (g.Or (judged f x i) (judged f y i)) (at p))
judged f (is p path c n) = judge_is f (at p) path c n
judged f (alias p path n) = judge_alias f (at p) path n
judged f (null_test p path equal) = judge_null_test f (at p) path equal
judged f (flag p path) = judge_flag f (at p) path
judged f (compare p xs n ys) = judge_compare f (at p) xs n ys

-- UNITS

abbrev pub guard_body : Body → Option (GuardScope → Guarded)
guard_body (a_body t x xs) = option_map (judge' guarded_of) x
guard_body _ = None

abbrev pub super_body : Body → Option (List Waiting)
super_body (a_constructor args xs) = option_map waiting_all args
super_body _ = None

abbrev pub lines_of : Body → Lines
lines_of (a_static t xs) = xs
lines_of (a_body t x xs) = xs
lines_of (a_constructor args xs) = xs
lines_of _ = done

abbrev pub completes' : Lines → Bool
completes' done = true
completes' (go x xs) = (leaving x).completes && completes' xs

abbrev pub open_piece : Piece → Opened
open_piece m = record {
  member = member_of m;
  guard = guard_body m.body;
  super_args = super_body m.body;
  block = runs' flow_of (lines_of m.body);
  completes = completes' (lines_of m.body);
}

completes_is : (xs : Lines) → can_complete (stmts xs) ≡ completes' xs
completes_is done = refl
completes_is (go x xs) = λ i. (leave_is x i).completes && completes_is xs i

guards_are : (x : Option Test) → option_map guarded (option_map guard x) ≡ option_map (judge' guarded_of) x
guards_are None = refl
guards_are (Some x) = λ i. Some (judged guarded_of x i)

supers_are : (xs : Option Trees) → option_map (map waiting) (option_map exprs xs) ≡ option_map waiting_all xs
supers_are None = refl
supers_are (Some xs) = λ i. Some (waits_all xs i)

guard_is : (b : Body) → option_map guarded (guard_part (part_of b)) ≡ guard_body b
guard_is (a_field t static) = refl
guard_is (a_static t xs) = refl
guard_is (an_abstract t) = refl
guard_is (a_body t x xs) = guards_are x
guard_is (a_constructor args xs) = refl

super_is : (b : Body) → option_map (map waiting) (super_part (part_of b)) ≡ super_body b
super_is (a_field t static) = refl
super_is (a_static t xs) = refl
super_is (an_abstract t) = refl
super_is (a_body t x xs) = refl
super_is (a_constructor args xs) = supers_are args

lines_are : (b : Body) → block_part (part_of b) ≡ stmts (lines_of b)
lines_are (a_field t static) = refl
lines_are (a_static t xs) = refl
lines_are (an_abstract t) = refl
lines_are (a_body t x xs) = refl
lines_are (a_constructor args xs) = refl

opens : (m : Piece) → opened (member_of m) ≡ open_piece m
opens m = λ i. record {
  member = member_of m;
  guard = guard_is m.body i;
  super_args = super_is m.body i;
  block = (ap (map flow) (lines_are m.body) ∙ runs_are flow_of (lines_of m.body)) i;
  completes = (ap can_complete (lines_are m.body) ∙ completes_is (lines_of m.body)) i;
}

opens_all : (ms : List Piece) → map opened (map member_of ms) ≡ map open_piece ms
opens_all [] = refl
opens_all (m ∷ ms) = λ i. opens m i ∷ opens_all ms i

abbrev pub open_sample : Sample → OpenDecl
open_sample d = record { decl = decl_of d; members = map open_piece d.members }

opens_samples : (ds : List Sample) → map open_decl (map decl_of ds) ≡ map open_sample ds
opens_samples [] = refl
opens_samples (d ∷ ds) = λ i. record { decl = decl_of d; members = opens_all d.members i } ∷ opens_samples ds i

-- the first fault of a sample, computed
abbrev pub first' : List Sample → List Iface → Option TypeFault
first' ds others = earlier None (faults_of (visits_in (heads_of (map decl_of ds) others) (map open_sample ds)))

pub first_is : (ds : List Sample) (others : List Iface) → first_fault (unit ds) others ≡ first' ds others
first_is ds others = λ i. earlier None (faults_of (visits_in (heads_of (map decl_of ds) others) (opens_samples ds i)))

-- the resolved tree of a sample, computed
abbrev pub made' : List Sample → List Iface → Option TypedUnit
made' ds others = unit_in (heads_of (map decl_of ds) others) (map open_sample ds)

pub made_is : (ds : List Sample) (others : List Iface) → made_unit (unit ds) others ≡ made' ds others
made_is ds others = λ i. unit_in (heads_of (map decl_of ds) others) (opens_samples ds i)
