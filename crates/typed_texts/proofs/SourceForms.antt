-- Whether the names and literals of each form of an expression and a statement are short, by its parts.
use Rattle.std.proofs.Common.{◌≡◌, ℕ, ◌≤◌, List, [], ◌∷◌, ◌++◌, map, length, Bool, true, Option, Some, None, refl, ◌∙◌, subst, arith}
use Rattle.std.specs.Prelude.{◌&&◌, nat_le}
use Rattle.std.specs.List.{list_all, flat_map}
use Rattle.std.proofs.lemmas.Bool.{le-leb, and_from}
use Rattle.class_form.specs.WellFormed.{is_text_byte}
use Rattle.jp_pred.specs.declared.ty.Ty.{Ty}
use Rattle.jp_pred.specs.Names.{In, here}
use Rattle.jp_pred.proofs.Entries.{in_left}
use Rattle.jp_pred.proofs.Visits.{in_right}
use Rattle.jp_ast.specs.declared.token.Place.{Place}
use Rattle.jp_ast.specs.declared.expr.Expr.{Expr, fold_out-Expr}
use Rattle.jp_ast.specs.declared.expr.ExprKind.{fold_out-ExprKind}
use Rattle.jp_ast.specs.declared.expr.ExprKind.TheVariants as form
use Rattle.jp_ast.specs.declared.stmt.Stmt.{Stmt}
use Rattle.jp_ast.specs.declared.stmt.Stmt as on_stmts
use Rattle.jp_ast.specs.declared.stmt.StmtKind.{fold_out-StmtKind}
use Rattle.jp_ast.specs.declared.stmt.StmtKind.TheVariants as run
use Rattle.jp_grammar.specs.Trees.{number_at, text_at, truth_at, null_at, this_at, unary_at, binary_at, instance_at, cond_at, cast_at, named_at, called_at, index_at, super_at, new_at, array_at}
use Rattle.unit_limits.specs.declared.limits.Limit.TheVariants as limits
use Rattle.unit_limits.specs.Counting.{Count, counted, most}
use Rattle.unit_limits.specs.Texts.{in_option, joined, expr_texts, stmt_texts}
use Rattle.code_texts.specs.Short.{is_short, names_short, is_short_text, or_so}
use Rattle.typed_texts.specs.Words.{expr_is_short, stmt_is_short}

-- counts that don't pass their limits
abbrev pub AreWithin : List Count → Type 0
AreWithin counts = (c : Count) → In c counts → c.number ≤ most c.limit

pub of_first : (xs ys : List Count) → AreWithin (xs ++ ys) → AreWithin xs
of_first xs ys w c i = w c (in_left ys i)

pub of_second : (xs ys : List Count) → AreWithin (xs ++ ys) → AreWithin ys
of_second xs ys w c i = w c (in_right xs i)

-- where the texts are within their limit, names and literals are short
abbrev pub Fine : Expr → Type 0
Fine x = AreWithin (expr_texts x) → expr_is_short x ≡ true

-- by what its texts are and what is asked of it
fine_as : (x : Expr) (counts : List Count) (b : Bool) → expr_texts x ≡ counts → expr_is_short x ≡ b → (AreWithin counts → b ≡ true) → Fine x
fine_as x counts b e f h w = f ∙ h (subst AreWithin e w)

-- LISTS

abbrev pub AllFine : List Expr → Type 0
AllFine [] = Unit {0}
AllFine (x ∷ xs) = Fine x × AllFine xs

pub more_fine : (xs : List Expr) (x : Expr) → AllFine xs → Fine x → AllFine (xs ++ x ∷ [])
more_fine [] x h k = (k, tt)
more_fine (y ∷ ys) x h k = (h.0, more_fine ys x h.1 k)

list_fine : (xs : List Expr) → AllFine xs → AreWithin (joined (map expr_texts xs)) → list_all (λ a. a) (map expr_is_short xs) ≡ true
list_fine [] h w = refl
list_fine (x ∷ xs) h w =
    let rest = joined (map expr_texts xs) in
    and_from (expr_is_short x) (list_all (λ a. a) (map expr_is_short xs)) (h.0 (of_first (expr_texts x) rest w)) (list_fine xs h.1 (of_second (expr_texts x) rest w))

pub arguments_fine : (xs : List Expr) → AllFine xs → AreWithin (flat_map expr_texts xs) → list_all expr_is_short xs ≡ true
arguments_fine [] h w = refl
arguments_fine (x ∷ xs) h w =
    let rest = flat_map expr_texts xs in
    and_from (expr_is_short x) (list_all expr_is_short xs) (h.0 (of_first (expr_texts x) rest w)) (arguments_fine xs h.1 (of_second (expr_texts x) rest w))

-- EXPRESSIONS

pub fine_number : (at : Place) (value : ℕ) (hex : Bool) → Fine (number_at at value hex)
fine_number at value hex w = rw (fold_out-Expr, fold_out-ExprKind, form.outs-Number) refl

pub fine_truth : (at : Place) (value : Bool) → Fine (truth_at at value)
fine_truth at value w = rw (fold_out-Expr, fold_out-ExprKind, form.outs-Truth) refl

pub fine_null : (at : Place) → Fine (null_at at)
fine_null at w = rw (fold_out-Expr, fold_out-ExprKind, form.outs-Null) refl

pub fine_this : (at : Place) → Fine (this_at at)
fine_this at w = rw (fold_out-Expr, fold_out-ExprKind, form.outs-This) refl

pub fine_text : (at : Place) (text : List ℕ) → list_all is_text_byte text ≡ true → Fine (text_at at text)
fine_text at text h =
    fine_as (text_at at text) (counted limits.Text (length text) ∷ []) (is_short_text text) (rw (fold_out-Expr, fold_out-ExprKind, form.outs-Text) refl) (rw (fold_out-Expr, fold_out-ExprKind, form.outs-Text) refl)
    (λ w. let few : length text ≤ 1000 = w (counted limits.Text (length text)) here in and_from (nat_le (length text) 65535) (list_all is_text_byte text) (le-leb (length text) 65535 (omega arith)) h)

pub fine_name : (at : Place) (name : List ℕ) → is_short name ≡ true → Fine (record { place = at; kind = form.Var name })
fine_name at name h = fine_as (record { place = at; kind = form.Var name }) [] (is_short name) (rw (fold_out-Expr, fold_out-ExprKind, form.outs-Var) refl) (rw (fold_out-Expr, fold_out-ExprKind, form.outs-Var) refl) (λ w. h)

pub fine_unary : (at : Place) (sign : ℕ) (right : Expr) → Fine right → Fine (unary_at at sign right)
fine_unary at sign right h =
    fine_as (unary_at at sign right) (expr_texts right) (expr_is_short right) (rw (fold_out-Expr, fold_out-ExprKind, form.outs-Unary) refl) (rw (fold_out-Expr, fold_out-ExprKind, form.outs-Unary) refl) h

pub fine_binary : (at : Place) (sign : ℕ) (left right : Expr) → Fine left → Fine right → Fine (binary_at at sign left right)
fine_binary at sign left right h k =
    fine_as (binary_at at sign left right) (expr_texts left ++ expr_texts right) (expr_is_short left && expr_is_short right) (rw (fold_out-Expr, fold_out-ExprKind, form.outs-Binary) refl) (rw (fold_out-Expr, fold_out-ExprKind, form.outs-Binary) refl)
    (λ w. and_from (expr_is_short left) (expr_is_short right) (h (of_first (expr_texts left) (expr_texts right) w)) (k (of_second (expr_texts left) (expr_texts right) w)))

pub fine_cond : (at : Place) (test first second : Expr) → Fine test → Fine first → Fine second → Fine (cond_at at test first second)
fine_cond at test first second h k l =
    let a = expr_texts test in let b = expr_texts first in let c = expr_texts second in
    fine_as (cond_at at test first second) (a ++ b ++ c) (expr_is_short test && (expr_is_short first && expr_is_short second)) (rw (fold_out-Expr, fold_out-ExprKind, form.outs-Cond) refl) (rw (fold_out-Expr, fold_out-ExprKind, form.outs-Cond) refl)
    (λ w.
    let v = of_first (a ++ b) c w in
    and_from (expr_is_short test) (expr_is_short first && expr_is_short second) (h (of_first a b v)) (and_from (expr_is_short first) (expr_is_short second) (k (of_second a b v)) (l (of_second (a ++ b) c w))))

pub fine_cast : (at : Place) (class : List ℕ) (value : Expr) → is_short class ≡ true → Fine value → Fine (cast_at at class value)
fine_cast at class value n h =
    fine_as (cast_at at class value) (expr_texts value) (expr_is_short value && is_short class) (rw (fold_out-Expr, fold_out-ExprKind, form.outs-Cast) refl) (rw (fold_out-Expr, fold_out-ExprKind, form.outs-Cast) refl)
    (λ w. and_from (expr_is_short value) (is_short class) (h w) n)

pub fine_instance : (at : Place) (value : Expr) (class : List ℕ) → is_short class ≡ true → Fine value → Fine (instance_at at value class)
fine_instance at value class n h =
    fine_as (instance_at at value class) (expr_texts value) (expr_is_short value && is_short class) (rw (fold_out-Expr, fold_out-ExprKind, form.outs-InstanceOf) refl) (rw (fold_out-Expr, fold_out-ExprKind, form.outs-InstanceOf) refl)
    (λ w. and_from (expr_is_short value) (is_short class) (h w) n)

fine_field : (at : Place) (object : Expr) (name : List ℕ) → is_short name ≡ true → Fine object → Fine (record { place = at; kind = form.Field object name })
fine_field at object name n h =
    fine_as (record { place = at; kind = form.Field object name }) (expr_texts object) (expr_is_short object && is_short name) (rw (fold_out-Expr, fold_out-ExprKind, form.outs-Field) refl) (rw (fold_out-Expr, fold_out-ExprKind, form.outs-Field) refl)
    (λ w. and_from (expr_is_short object) (is_short name) (h w) n)

-- what may stand in front of a dot
abbrev pub FineBefore : Option Expr → Type 0
FineBefore None = Unit {0}
FineBefore (Some x) = Fine x

pub fine_named : (at : Place) (object : Option Expr) (name : List ℕ) → is_short name ≡ true → FineBefore object → Fine (named_at at object name)
fine_named at None name n h = fine_name at name n
fine_named at (Some object) name n h = fine_field at object name n h

pub fine_call : (at : Place) (object : Option Expr) (name : List ℕ) (args : List Expr) → is_short name ≡ true → FineBefore object → AllFine args → Fine (called_at at object name args)
fine_call at None name args n h k =
    fine_as (called_at at None name args) ([] ++ joined (map expr_texts args)) (true && (list_all (λ a. a) (map expr_is_short args) && is_short name)) (rw (fold_out-Expr, fold_out-ExprKind, form.outs-Call) refl) (rw (fold_out-Expr, fold_out-ExprKind, form.outs-Call) refl)
    (λ w. and_from (list_all (λ a. a) (map expr_is_short args)) (is_short name) (list_fine args k w) n)
fine_call at (Some object) name args n h k =
    fine_as (called_at at (Some object) name args) (expr_texts object ++ joined (map expr_texts args)) (expr_is_short object && (list_all (λ a. a) (map expr_is_short args) && is_short name)) (rw (fold_out-Expr, fold_out-ExprKind, form.outs-Call) refl) (rw (fold_out-Expr, fold_out-ExprKind, form.outs-Call) refl)
    (λ w.
    let rest = joined (map expr_texts args) in
    and_from (expr_is_short object) (list_all (λ a. a) (map expr_is_short args) && is_short name) (h (of_first (expr_texts object) rest w))
    (and_from (list_all (λ a. a) (map expr_is_short args)) (is_short name) (list_fine args k (of_second (expr_texts object) rest w)) n))

pub fine_index : (at : Place) (array index : Expr) → Fine array → Fine index → Fine (index_at at array index)
fine_index at array index h k =
    fine_as (index_at at array index) (expr_texts array ++ expr_texts index) (expr_is_short array && expr_is_short index) (rw (fold_out-Expr, fold_out-ExprKind, form.outs-Index) refl) (rw (fold_out-Expr, fold_out-ExprKind, form.outs-Index) refl)
    (λ w. and_from (expr_is_short array) (expr_is_short index) (h (of_first (expr_texts array) (expr_texts index) w)) (k (of_second (expr_texts array) (expr_texts index) w)))

pub fine_super : (at : Place) (name : List ℕ) (args : List Expr) → is_short name ≡ true → AllFine args → Fine (super_at at name args)
fine_super at name args n k =
    fine_as (super_at at name args) (joined (map expr_texts args)) (list_all (λ a. a) (map expr_is_short args) && is_short name) (rw (fold_out-Expr, fold_out-ExprKind, form.outs-SuperCall) refl) (rw (fold_out-Expr, fold_out-ExprKind, form.outs-SuperCall) refl)
    (λ w. and_from (list_all (λ a. a) (map expr_is_short args)) (is_short name) (list_fine args k w) n)

pub fine_new : (at : Place) (class : List ℕ) (args : List Expr) → is_short class ≡ true → AllFine args → Fine (new_at at class args)
fine_new at class args n k =
    fine_as (new_at at class args) (joined (map expr_texts args)) (list_all (λ a. a) (map expr_is_short args) && is_short class) (rw (fold_out-Expr, fold_out-ExprKind, form.outs-New) refl) (rw (fold_out-Expr, fold_out-ExprKind, form.outs-New) refl)
    (λ w. and_from (list_all (λ a. a) (map expr_is_short args)) (is_short class) (list_fine args k w) n)

pub fine_array : (at : Place) (elem : Ty) (size : Expr) → names_short elem ≡ true → Fine size → Fine (array_at at elem size)
fine_array at elem size n h =
    fine_as (array_at at elem size) (expr_texts size) (expr_is_short size && names_short elem) (rw (fold_out-Expr, fold_out-ExprKind, form.outs-NewArray) refl) (rw (fold_out-Expr, fold_out-ExprKind, form.outs-NewArray) refl)
    (λ w. and_from (expr_is_short size) (names_short elem) (h w) n)

-- an expression that may be left out
abbrev pub FineOption : Option Expr → Type 0
FineOption x = AreWithin (in_option expr_texts x) → or_so expr_is_short x ≡ true

pub fine_left_out : FineOption None
fine_left_out w = refl

pub fine_there : (x : Expr) → Fine x → FineOption (Some x)
fine_there x h = h

-- STATEMENTS

abbrev pub FineStmt : Stmt → Type 0
FineStmt x = AreWithin (stmt_texts x) → stmt_is_short x ≡ true

stmt_as : (x : Stmt) (counts : List Count) (b : Bool) → stmt_texts x ≡ counts → stmt_is_short x ≡ b → (AreWithin counts → b ≡ true) → FineStmt x
stmt_as x counts b e f h w = f ∙ h (subst AreWithin e w)

abbrev pub AllFineStmts : List Stmt → Type 0
AllFineStmts [] = Unit {0}
AllFineStmts (x ∷ xs) = FineStmt x × AllFineStmts xs

pub more_stmts : (xs : List Stmt) (x : Stmt) → AllFineStmts xs → FineStmt x → AllFineStmts (xs ++ x ∷ [])
more_stmts [] x h k = (k, tt)
more_stmts (y ∷ ys) x h k = (h.0, more_stmts ys x h.1 k)

stmts_fine : (xs : List Stmt) → AllFineStmts xs → AreWithin (joined (map stmt_texts xs)) → list_all (λ b. b) (map stmt_is_short xs) ≡ true
stmts_fine [] h w = refl
stmts_fine (x ∷ xs) h w =
    let rest = joined (map stmt_texts xs) in
    and_from (stmt_is_short x) (list_all (λ b. b) (map stmt_is_short xs)) (h.0 (of_first (stmt_texts x) rest w)) (stmts_fine xs h.1 (of_second (stmt_texts x) rest w))

pub block_fine : (xs : List Stmt) → AllFineStmts xs → AreWithin (flat_map stmt_texts xs) → list_all stmt_is_short xs ≡ true
block_fine [] h w = refl
block_fine (x ∷ xs) h w =
    let rest = flat_map stmt_texts xs in
    and_from (stmt_is_short x) (list_all stmt_is_short xs) (h.0 (of_first (stmt_texts x) rest w)) (block_fine xs h.1 (of_second (stmt_texts x) rest w))

-- a statement that may be left out
abbrev pub FineMaybe : Option Stmt → Type 0
FineMaybe x = AreWithin (in_option stmt_texts x) → or_so stmt_is_short x ≡ true

pub stmt_left_out : FineMaybe None
stmt_left_out w = refl

pub stmt_there : (x : Stmt) → FineStmt x → FineMaybe (Some x)
stmt_there x h = h

pub fine_block : (at : Place) (xs : List Stmt) → AllFineStmts xs → FineStmt (record { place = at; kind = run.Block xs })
fine_block at xs h =
    stmt_as (record { place = at; kind = run.Block xs }) (joined (map stmt_texts xs)) (list_all (λ b. b) (map stmt_is_short xs)) (rw (on_stmts.fold_out-Stmt, fold_out-StmtKind, run.outs-Block) refl) (rw (on_stmts.fold_out-Stmt, fold_out-StmtKind, run.outs-Block) refl) (stmts_fine xs h)

pub fine_empty : (at : Place) → FineStmt (record { place = at; kind = run.Empty })
fine_empty at w = rw (on_stmts.fold_out-Stmt, fold_out-StmtKind, run.outs-Empty) refl

pub fine_break : (at : Place) → FineStmt (record { place = at; kind = run.Break })
fine_break at w = rw (on_stmts.fold_out-Stmt, fold_out-StmtKind, run.outs-Break) refl

pub fine_continue : (at : Place) → FineStmt (record { place = at; kind = run.Continue })
fine_continue at w = rw (on_stmts.fold_out-Stmt, fold_out-StmtKind, run.outs-Continue) refl

pub fine_local : (at : Place) (t : Ty) (name : List ℕ) (value : Option Expr) → FineOption value → FineStmt (record { place = at; kind = run.Local t name value })
fine_local at t name value h =
    stmt_as (record { place = at; kind = run.Local t name value }) (in_option expr_texts value) (or_so expr_is_short value) (rw (on_stmts.fold_out-Stmt, fold_out-StmtKind, run.outs-Local) refl) (rw (on_stmts.fold_out-Stmt, fold_out-StmtKind, run.outs-Local) refl) h

pub fine_return : (at : Place) (value : Option Expr) → FineOption value → FineStmt (record { place = at; kind = run.Return value })
fine_return at value h =
    stmt_as (record { place = at; kind = run.Return value }) (in_option expr_texts value) (or_so expr_is_short value) (rw (on_stmts.fold_out-Stmt, fold_out-StmtKind, run.outs-Return) refl) (rw (on_stmts.fold_out-Stmt, fold_out-StmtKind, run.outs-Return) refl) h

if_texts : (at : Place) (test : Expr) (first : Stmt) (second : Option Stmt) → stmt_texts (record { place = at; kind = run.If test first second }) ≡ expr_texts test ++ stmt_texts first ++ in_option stmt_texts second
if_texts at test first None = rw (on_stmts.fold_out-Stmt, fold_out-StmtKind, run.outs-If) refl
if_texts at test first (Some second) = rw (on_stmts.fold_out-Stmt, fold_out-StmtKind, run.outs-If) refl

if_words : (at : Place) (test : Expr) (first : Stmt) (second : Option Stmt) → stmt_is_short (record { place = at; kind = run.If test first second }) ≡ (expr_is_short test && (stmt_is_short first && or_so stmt_is_short second))
if_words at test first None = rw (on_stmts.fold_out-Stmt, fold_out-StmtKind, run.outs-If) refl
if_words at test first (Some second) = rw (on_stmts.fold_out-Stmt, fold_out-StmtKind, run.outs-If) refl

pub fine_if : (at : Place) (test : Expr) (first : Stmt) (second : Option Stmt) → Fine test → FineStmt first → FineMaybe second → FineStmt (record { place = at; kind = run.If test first second })
fine_if at test first second h k l =
    let a = expr_texts test in let b = stmt_texts first in let c = in_option stmt_texts second in
    stmt_as (record { place = at; kind = run.If test first second }) (a ++ b ++ c) (expr_is_short test && (stmt_is_short first && or_so stmt_is_short second)) (if_texts at test first second) (if_words at test first second)
    (λ w.
    let v = of_first (a ++ b) c w in
    and_from (expr_is_short test) (stmt_is_short first && or_so stmt_is_short second) (h (of_first a b v)) (and_from (stmt_is_short first) (or_so stmt_is_short second) (k (of_second a b v)) (l (of_second (a ++ b) c w))))

pub fine_while : (at : Place) (test : Expr) (body : Stmt) → Fine test → FineStmt body → FineStmt (record { place = at; kind = run.While test body })
fine_while at test body h k =
    stmt_as (record { place = at; kind = run.While test body }) (expr_texts test ++ stmt_texts body) (expr_is_short test && stmt_is_short body) (rw (on_stmts.fold_out-Stmt, fold_out-StmtKind, run.outs-While) refl) (rw (on_stmts.fold_out-Stmt, fold_out-StmtKind, run.outs-While) refl)
    (λ w. and_from (expr_is_short test) (stmt_is_short body) (h (of_first (expr_texts test) (stmt_texts body) w)) (k (of_second (expr_texts test) (stmt_texts body) w)))

for_texts : (at : Place) (init : Option Stmt) (test : Option Expr) (change : Option Stmt) (body : Stmt) →
    stmt_texts (record { place = at; kind = run.For init test change body }) ≡ in_option stmt_texts init ++ in_option expr_texts test ++ in_option stmt_texts change ++ stmt_texts body
for_texts at None test None body = rw (on_stmts.fold_out-Stmt, fold_out-StmtKind, run.outs-For) refl
for_texts at None test (Some change) body = rw (on_stmts.fold_out-Stmt, fold_out-StmtKind, run.outs-For) refl
for_texts at (Some init) test None body = rw (on_stmts.fold_out-Stmt, fold_out-StmtKind, run.outs-For) refl
for_texts at (Some init) test (Some change) body = rw (on_stmts.fold_out-Stmt, fold_out-StmtKind, run.outs-For) refl

for_words : (at : Place) (init : Option Stmt) (test : Option Expr) (change : Option Stmt) (body : Stmt) →
    stmt_is_short (record { place = at; kind = run.For init test change body }) ≡ (or_so stmt_is_short init && (or_so expr_is_short test && (or_so stmt_is_short change && stmt_is_short body)))
for_words at None test None body = rw (on_stmts.fold_out-Stmt, fold_out-StmtKind, run.outs-For) refl
for_words at None test (Some change) body = rw (on_stmts.fold_out-Stmt, fold_out-StmtKind, run.outs-For) refl
for_words at (Some init) test None body = rw (on_stmts.fold_out-Stmt, fold_out-StmtKind, run.outs-For) refl
for_words at (Some init) test (Some change) body = rw (on_stmts.fold_out-Stmt, fold_out-StmtKind, run.outs-For) refl

pub fine_for : (at : Place) (init : Option Stmt) (test : Option Expr) (change : Option Stmt) (body : Stmt) → FineMaybe init → FineOption test → FineMaybe change → FineStmt body → FineStmt (record { place = at; kind = run.For init test change body })
fine_for at init test change body h k l m =
    let a = in_option stmt_texts init in let b = in_option expr_texts test in let c = in_option stmt_texts change in let d = stmt_texts body in
    stmt_as (record { place = at; kind = run.For init test change body }) (a ++ b ++ c ++ d) (or_so stmt_is_short init && (or_so expr_is_short test && (or_so stmt_is_short change && stmt_is_short body))) (for_texts at init test change body) (for_words at init test change body)
    (λ w.
    let v = of_first (a ++ b ++ c) d w in
    let u = of_first (a ++ b) c v in
    and_from (or_so stmt_is_short init) (or_so expr_is_short test && (or_so stmt_is_short change && stmt_is_short body)) (h (of_first a b u))
    (and_from (or_so expr_is_short test) (or_so stmt_is_short change && stmt_is_short body) (k (of_second a b u))
    (and_from (or_so stmt_is_short change) (stmt_is_short body) (l (of_second (a ++ b) c v)) (m (of_second (a ++ b ++ c) d w)))))

pub fine_assign : (at : Place) (left : Expr) (sign : ℕ) (right : Expr) → Fine left → Fine right → FineStmt (record { place = at; kind = run.Assign left sign right })
fine_assign at left sign right h k =
    stmt_as (record { place = at; kind = run.Assign left sign right }) (expr_texts left ++ expr_texts right) (expr_is_short left && expr_is_short right) (rw (on_stmts.fold_out-Stmt, fold_out-StmtKind, run.outs-Assign) refl) (rw (on_stmts.fold_out-Stmt, fold_out-StmtKind, run.outs-Assign) refl)
    (λ w. and_from (expr_is_short left) (expr_is_short right) (h (of_first (expr_texts left) (expr_texts right) w)) (k (of_second (expr_texts left) (expr_texts right) w)))

pub fine_bump : (at : Place) (left : Expr) (up : Bool) → Fine left → FineStmt (record { place = at; kind = run.Bump left up })
fine_bump at left up h = stmt_as (record { place = at; kind = run.Bump left up }) (expr_texts left) (expr_is_short left) (rw (on_stmts.fold_out-Stmt, fold_out-StmtKind, run.outs-Bump) refl) (rw (on_stmts.fold_out-Stmt, fold_out-StmtKind, run.outs-Bump) refl) h

pub fine_run : (at : Place) (value : Expr) → Fine value → FineStmt (record { place = at; kind = run.Run value })
fine_run at value h = stmt_as (record { place = at; kind = run.Run value }) (expr_texts value) (expr_is_short value) (rw (on_stmts.fold_out-Stmt, fold_out-StmtKind, run.outs-Run) refl) (rw (on_stmts.fold_out-Stmt, fold_out-StmtKind, run.outs-Run) refl) h
