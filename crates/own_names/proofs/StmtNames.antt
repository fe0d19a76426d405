-- The classes that a statement mentions in type positions are those that it names there.
use Rattle.std.proofs.Common.{◌≡◌, false, List, [], ◌∷◌, ◌++◌, map, Option, Some, None, refl, sym, subst}
use Rattle.std.specs.List.{flat_map}
use Rattle.std.specs.Option.{option_map}
use Rattle.jp_pred.specs.Names.{Word}
use Rattle.jp_ast.specs.declared.token.Place.{Place}
use Rattle.jp_ast.specs.declared.expr.Expr.{Expr}
use Rattle.jp_ast.specs.declared.stmt.Stmt.{Stmt}
use Rattle.jp_ast.specs.declared.stmt.StmtKind.{StmtKind, StmtKind-F}
use Rattle.jp_ast.specs.declared.stmt.StmtKind.TheOpen as s
use Rattle.jp_ast.specs.declared.stmt.StmtKind.TheFolds.{ind-Stmt, fold-StmtKind, fold-roll-Stmt, fold-roll-StmtKind, map-StmtKind}
use Rattle.type_rules.specs.ClassNames.{Mention, Line, along, or_none, in_type, in_expr, in_stmt}
use Rattle.type_rules.specs.ClassNames as mentions
use Rattle.own_names.specs.Naming.{Named, type_names, in_option}
use Rattle.own_names.specs.Trees.{joined, expr_names, stmt_step, stmt_names}
use Rattle.own_names.proofs.Says.{Says, both_say, three_say, four_say, type_says}
use Rattle.own_names.proofs.ExprNames.{expr_says, option_says}

-- whatever the variables in scope
abbrev LineSays : Line → List Named → Type 0
LineSays f names = (vars : List Word) → Says (f vars).mentions names

abbrev kind_mentions : StmtKind → Line
kind_mentions = fold-StmtKind Line Line mentions.stmt_step (λ x. x.kind)

abbrev kind_names : StmtKind → Place → List Named
kind_names = fold-StmtKind (Place → List Named) (List Named) stmt_step (λ x. x.kind x.place)

abbrev SaidKind : Type 0
SaidKind = (k : StmtKind) × ((p : Place) → LineSays (kind_mentions k) (kind_names k p))

abbrev SaidStmt : Type 0
SaidStmt = (x : Stmt) × LineSays (in_stmt x) (stmt_names x)

abbrev lines : List SaidStmt → List Line
lines xs = map in_stmt (map (λ (x : SaidStmt). x.0) xs)

abbrev names_of : List SaidStmt → List (List Named)
names_of xs = map stmt_names (map (λ (x : SaidStmt). x.0) xs)

lines_say : (xs : List SaidStmt) (vars : List Word) → Says (along (lines xs) vars) (joined (names_of xs))
lines_say [] vars = refl
lines_say (x ∷ xs) vars =
    both_say (in_stmt x.0 vars).mentions (along (lines xs) (in_stmt x.0 vars).after) (stmt_names x.0) (joined (names_of xs)) (x.1 vars) (lines_say xs (in_stmt x.0 vars).after)

-- a statement that may be left out
abbrev maybe : Option SaidStmt → Line
maybe x = or_none (option_map in_stmt (option_map (λ (x : SaidStmt). x.0) x))

abbrev maybe_names : Option SaidStmt → List Named
maybe_names x = in_option (λ names. names) (option_map stmt_names (option_map (λ (x : SaidStmt). x.0) x))

maybe_says : (x : Option SaidStmt) → LineSays (maybe x) (maybe_names x)
maybe_says None vars = refl
maybe_says (Some x) vars = x.1 vars

if_says : (test : Expr) (first : SaidStmt) (second : Option SaidStmt) (vars : List Word) →
    Says (in_expr vars test ++ ((in_stmt first.0 vars).mentions ++ (maybe second vars).mentions)) (expr_names test ++ stmt_names first.0 ++ maybe_names second)
if_says test first second vars =
    three_say (in_expr vars test) (in_stmt first.0 vars).mentions (maybe second vars).mentions (expr_names test) (stmt_names first.0) (maybe_names second)
    (expr_says test vars false) (first.1 vars) (maybe_says second vars)

for_says : (init : Option SaidStmt) (test : Option Expr) (change : Option SaidStmt) (body : SaidStmt) (vars : List Word) →
    Says ((maybe init vars).mentions ++ (mentions.in_option (maybe init vars).after test ++ ((maybe change (maybe init vars).after).mentions ++ (in_stmt body.0 (maybe init vars).after).mentions)))
    (maybe_names init ++ in_option expr_names test ++ maybe_names change ++ stmt_names body.0)
for_says init test change body vars =
    let after : List Word = (maybe init vars).after in
    four_say (maybe init vars).mentions (mentions.in_option after test) (maybe change after).mentions (in_stmt body.0 after).mentions (maybe_names init) (in_option expr_names test) (maybe_names change) (stmt_names body.0)
    (maybe_says init vars) (option_says test after) (maybe_says change after) (body.1 after)

layer : (y : StmtKind-F SaidKind SaidStmt) (p : Place) →
    LineSays (mentions.stmt_step (map-StmtKind StmtKind Stmt Line Line kind_mentions in_stmt (map-StmtKind SaidKind SaidStmt StmtKind Stmt (λ k. k.0) (λ x. x.0) y)))
    (stmt_step (map-StmtKind StmtKind Stmt (Place → List Named) (List Named) kind_names stmt_names (map-StmtKind SaidKind SaidStmt StmtKind Stmt (λ k. k.0) (λ x. x.0) y)) p)
layer (s.Block all) p vars = lines_say all vars
layer s.Empty p vars = refl
layer (s.Local t name value) p vars = both_say (in_type t) (mentions.in_option vars value) (type_names p t) (in_option expr_names value) (type_says t p) (option_says value vars)
layer (s.If test first None) p vars = if_says test first None vars
layer (s.If test first (Some second)) p vars = if_says test first (Some second) vars
layer (s.While test body) p vars = both_say (in_expr vars test) (in_stmt body.0 vars).mentions (expr_names test) (stmt_names body.0) (expr_says test vars false) (body.1 vars)
layer (s.For None test None body) p vars = for_says None test None body vars
layer (s.For None test (Some change) body) p vars = for_says None test (Some change) body vars
layer (s.For (Some init) test None body) p vars = for_says (Some init) test None body vars
layer (s.For (Some init) test (Some change) body) p vars = for_says (Some init) test (Some change) body vars
layer s.Break p vars = refl
layer s.Continue p vars = refl
layer (s.Return value) p vars = option_says value vars
layer (s.Assign left sign right) p vars = both_say (in_expr vars left) (in_expr vars right) (expr_names left) (expr_names right) (expr_says left vars false) (expr_says right vars false)
layer (s.Bump left up) p vars = expr_says left vars false
layer (s.Run x) p vars = expr_says x vars false

with_both : {A B : Type 0} (Q : A → B → Type 0) (x z : A) (y u : B) → x ≡ z → y ≡ u → Q z u → Q x y
with_both Q x z y u e f q = subst (λ v. Q v y) (sym e) (subst (λ v. Q z v) (sym f) q)

stmt_says : (x : Stmt) → LineSays (in_stmt x) (stmt_names x)
stmt_says = ind-Stmt (λ k. (p : Place) → LineSays (kind_mentions k) (kind_names k p)) (λ x. LineSays (in_stmt x) (stmt_names x))
    (λ x y is. with_both (λ (f : Line) (g : Place → List Named). (p : Place) → LineSays f (g p)) _ _ _ _ (fold-roll-StmtKind Line Line mentions.stmt_step (λ x. x.kind) x)
    (fold-roll-StmtKind (Place → List Named) (List Named) stmt_step (λ x. x.kind x.place) x)
    (subst (λ (z : StmtKind-F StmtKind Stmt). (p : Place) → LineSays (mentions.stmt_step (map-StmtKind StmtKind Stmt Line Line kind_mentions in_stmt z)) (stmt_step (map-StmtKind StmtKind Stmt (Place → List Named) (List Named) kind_names stmt_names z) p)) is (layer y)))
    (λ x y is. with_both LineSays _ _ _ _ (fold-roll-Stmt Line Line mentions.stmt_step (λ x. x.kind) x)
    (fold-roll-Stmt (Place → List Named) (List Named) stmt_step (λ x. x.kind x.place) x)
    (subst (λ (z : s.Stmt-F StmtKind Stmt). LineSays (kind_mentions z.kind) (kind_names z.kind z.place)) is (y.kind.1 y.place)))

-- the statements of a block
pub block_says : (block : List Stmt) (vars : List Word) → Says (mentions.in_block vars block) (flat_map stmt_names block)
block_says [] vars = refl
block_says (x ∷ xs) vars =
    both_say (in_stmt x vars).mentions (along (map in_stmt xs) (in_stmt x vars).after) (stmt_names x) (flat_map stmt_names xs) (stmt_says x vars) (block_says xs (in_stmt x vars).after)
