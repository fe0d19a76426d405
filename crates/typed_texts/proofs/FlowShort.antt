-- A statement with short names and literals has a tree with such names and literals.
use Rattle.std.proofs.Common.{◌≡◌, ◌+◌, Bool, true, false, List, [], ◌∷◌, ◌++◌, map, Option, Some, None, refl, sym, ap, ◌∙◌, subst}
use Rattle.std.specs.Prelude.{◌&&◌}
use Rattle.std.specs.List.{list_all}
use Rattle.std.specs.Option.{option_map}
use Rattle.std.proofs.lemmas.Bool.{and_from, and_parts}
use Rattle.jp_ast.specs.declared.token.Place.{Place}
use Rattle.jp_ast.specs.declared.expr.Expr.{Expr}
use Rattle.jp_ast.specs.declared.stmt.Stmt.{Stmt}
use Rattle.jp_ast.specs.declared.stmt.StmtKind.{StmtKind, StmtKind-F}
use Rattle.jp_ast.specs.declared.stmt.StmtKind.TheOpen as s
use Rattle.jp_ast.specs.declared.stmt.StmtKind.TheFolds.{ind-Stmt, fold-StmtKind, fold-roll-Stmt, fold-roll-StmtKind, map-StmtKind}
use Rattle.jp_meaning.specs.declared.expr.TypedExpr.{TypedExpr}
use Rattle.jp_meaning.specs.declared.stmt.TypedStmt.{TypedStmt}
use Rattle.jp_meaning.specs.declared.stmt.TypedStmtKind.{TypedStmtKind}
use Rattle.jp_meaning.specs.declared.stmt.TypedStmtKind.TheVariants as made
use Rattle.type_rules.specs.declared.fault.TypeFault.{TypeFault}
use Rattle.type_rules.specs.declared.scope.Scope.{Scope}
use Rattle.type_rules.specs.declared.seen.Role.TheVariants as role
use Rattle.type_rules.specs.declared.seen.Seen.{Seen}
use Rattle.type_rules.specs.declared.seen.Seen.TheVariants as seen
use Rattle.type_rules.specs.Names.{receiver_slots}
use Rattle.type_rules.specs.Nodes.{AtStmt}
use Rattle.type_rules.specs.Table.{own_faults}
use Rattle.type_rules.specs.Expressions.{part}
use Rattle.type_rules.specs.Statements.{Flow, waiting, Step, Block, Empty, Local, If, While, For, Jump, Return, Assign, Bump, Run, step_of, in_loop, count, after_init, operand, seen_option, pushed, made_along, node_in, scope_behind, tree_of, tree_option, made_option, resolved, statement_at, flow_of, flow}
use Rattle.code_texts.specs.Short.{is_short_expr, is_short_stmt, or_so}
use Rattle.typed_code.proofs.Making.{OnMade, so_then, so_map}
use Rattle.typed_texts.specs.Words.{stmt_step, expr_is_short, stmt_is_short}
use Rattle.typed_texts.proofs.ShortForms.{fine_block, fine_empty, fine_local, fine_if, fine_while, fine_for, fine_break, fine_continue, fine_return, fine_assign, fine_bump, fine_run}
use Rattle.typed_texts.proofs.SeenShort.{AreShort, Short, with_both, part_short}

abbrev fine : TypedStmt → Bool
fine = is_short_stmt

-- EXPRESSIONS

abbrev Plain : TypedExpr → Type 0
Plain e = is_short_expr e ≡ true

tree_made : (x : Seen) → Short x → OnMade Plain (tree_of x)
tree_made seen.Faulty h = tt
tree_made (seen.Value k) h = h
tree_made (seen.Class name) h = tt
tree_made (seen.Text text) h = tt

operand_made : (c : Scope) → AreShort c.heads → (x : Expr) → expr_is_short x ≡ true → OnMade Plain (tree_of (operand c (waiting x)).seen)
operand_made c g x w = tree_made (operand c (waiting x)).seen (part_short c g x w role.Operand)

alone_made : (c : Scope) → AreShort c.heads → (x : Expr) → expr_is_short x ≡ true → OnMade Plain (tree_of (part c x role.Alone).seen)
alone_made c g x w = tree_made (part c x role.Alone).seen (part_short c g x w role.Alone)

abbrev MayRead : Option TypedExpr → Type 0
MayRead v = or_so is_short_expr v ≡ true

option_made : (c : Scope) → AreShort c.heads → (x : Option Expr) → or_so expr_is_short x ≡ true → OnMade MayRead (tree_option (seen_option c (option_map waiting x)))
option_made c g None w = refl
option_made c g (Some x) w = so_map Some MayRead Plain (tree_of (operand c (waiting x)).seen) (operand_made c g x w) (λ e h. h)

-- STATEMENTS

abbrev Good : TypedStmt → Type 0
Good t = fine t ≡ true

abbrev pub AllGood : List TypedStmt → Type 0
AllGood ts = list_all fine ts ≡ true

abbrev MayBe : Option TypedStmt → Type 0
MayBe o = or_so (λ b. b) (option_map fine o) ≡ true

abbrev ShortFlow : Bool → (Scope → Flow) → Type 0
ShortFlow words f = words ≡ true → (c : Scope) → AreShort c.heads → OnMade Good (f c).made × ((f c).after.heads ≡ c.heads)

settle : (P : TypedStmt → Type 0) (fs : List TypeFault) (o : Option TypedStmt) → OnMade P o → OnMade P (elim fs as (λ x. Option TypedStmt) [ [] ↦ o | y ∷ ys ↦ None ])
settle P [] o h = h
settle P (y ∷ ys) o h = tt

abbrev At : Place → TypedStmtKind → Type 0
At place k = Good (statement_at place k)

whole : (c : Scope) (place : Place) (step : Step) → OnMade (At place) (resolved c step) → (scope_behind c step).heads ≡ c.heads → OnMade Good (flow_of step place c).made × ((flow_of step place c).after.heads ≡ c.heads)
whole c place step h e =
    (settle Good (own_faults place (AtStmt c (node_in c step))) (option_map (statement_at place) (resolved c step)) (so_map (statement_at place) Good (At place) (resolved c step) h (λ k q. q)), e)

abbrev ShortStmt : Type 0
ShortStmt = (x : Stmt) × ShortFlow (stmt_is_short x) (flow x)

abbrev flows : List ShortStmt → List (Scope → Flow)
flows xs = map flow (map (λ (x : ShortStmt). x.0) xs)

abbrev are_short : List ShortStmt → Bool
are_short xs = list_all (λ b. b) (map stmt_is_short (map (λ (x : ShortStmt). x.0) xs))

abbrev maybe : Option ShortStmt → Option (Scope → Flow)
maybe x = option_map flow (option_map (λ (x : ShortStmt). x.0) x)

abbrev may_be_short : Option ShortStmt → Bool
may_be_short x = or_so (λ b. b) (option_map stmt_is_short (option_map (λ (x : ShortStmt). x.0) x))

nothing_more : (fs : List (Scope → Flow)) (c : Scope) (P : List TypedStmt → Type 0) → OnMade P (made_along None fs c)
nothing_more [] c P = tt
nothing_more (f ∷ fs) c P = nothing_more fs (f c).after P

one_more : (done : List TypedStmt) (t : TypedStmt) → AllGood done → Good t → AllGood (done ++ t ∷ [])
one_more [] t h k = and_from (fine t) true k refl
one_more (d ∷ ds) t h k = let g = and_parts (fine d) (list_all fine ds) h in and_from (fine d) (list_all fine (ds ++ t ∷ [])) g.0 (one_more ds t g.1 k)

along : (xs : List ShortStmt) (done : List TypedStmt) (c : Scope) → are_short xs ≡ true → AreShort c.heads → AllGood done → OnMade AllGood (made_along (Some done) (flows xs) c)
along [] done c w g h = h
along (x ∷ xs) done c w g h =
    let v = and_parts (stmt_is_short x.0) (are_short xs) w in
    let f = x.1 v.0 c g in
    by_made (flow x.0 c).made f.0 (λ t k. along xs (done ++ t ∷ []) (flow x.0 c).after v.1 (subst AreShort (sym f.1) g) (one_more done t h k)) where
      by_made : (o : Option TypedStmt) → OnMade Good o → ((t : TypedStmt) → Good t → OnMade AllGood (made_along (Some (done ++ t ∷ [])) (flows xs) (flow x.0 c).after)) →
          OnMade AllGood (made_along (pushed (Some done) o) (flows xs) (flow x.0 c).after)
      by_made None m later = nothing_more (flows xs) (flow x.0 c).after AllGood
      by_made (Some t) m later = later t m

map_all : (ts : List TypedStmt) → AllGood ts → list_all (λ b. b) (map fine ts) ≡ true
map_all [] h = refl
map_all (t ∷ ts) h = let g = and_parts (fine t) (list_all fine ts) h in and_from (fine t) (list_all (λ b. b) (map fine ts)) g.0 (map_all ts g.1)

maybe_made : (x : Option ShortStmt) (c : Scope) → may_be_short x ≡ true → AreShort c.heads → OnMade MayBe (made_option (maybe x) c)
maybe_made None c w g = refl
maybe_made (Some x) c w g = so_map Some MayBe Good (flow x.0 c).made (x.1 w c g).0 (λ t h. h)

behind_init : (x : Option ShortStmt) (c : Scope) → may_be_short x ≡ true → AreShort c.heads → AreShort (after_init (maybe x) c).heads
behind_init None c w g = g
behind_init (Some x) c w g = subst AreShort (sym (x.1 w c g).1) g

if_made : (test : Expr) (first : ShortStmt) (second : Option ShortStmt) (c : Scope) (place : Place) → (expr_is_short test && (stmt_is_short first.0 && may_be_short second)) ≡ true → AreShort c.heads →
    OnMade (At place) (resolved c (If (waiting test) (flow first.0) (maybe second)))
if_made test first second c place w g =
    let v = and_parts (expr_is_short test) (stmt_is_short first.0 && may_be_short second) w in
    let u = and_parts (stmt_is_short first.0) (may_be_short second) v.1 in
    so_then _ (At place) Plain (tree_of (operand c (waiting test)).seen) (operand_made c g test v.0) (λ t ht.
    so_then _ (At place) Good (flow first.0 c).made (first.1 u.0 c g).0 (λ a ha.
    so_map (λ b. made.If t a b) (At place) MayBe (made_option (maybe second) c) (maybe_made second c u.1 g) (λ b hb.
    fine_if place t a b ∙ and_from (is_short_expr t) (fine a && or_so (λ b. b) (option_map fine b)) ht (and_from (fine a) (or_so (λ b. b) (option_map fine b)) ha hb))))

for_made : (init : Option ShortStmt) (test : Option Expr) (change : Option ShortStmt) (body : ShortStmt) (c : Scope) (place : Place) →
    (may_be_short init && (or_so expr_is_short test && (may_be_short change && stmt_is_short body.0))) ≡ true → AreShort c.heads →
    OnMade (At place) (resolved c (For (maybe init) (option_map waiting test) (maybe change) (flow body.0)))
for_made init test change body c place w g =
    let p = and_parts (may_be_short init) (or_so expr_is_short test && (may_be_short change && stmt_is_short body.0)) w in
    let q = and_parts (or_so expr_is_short test) (may_be_short change && stmt_is_short body.0) p.1 in
    let r = and_parts (may_be_short change) (stmt_is_short body.0) q.1 in
    let d = after_init (maybe init) c in
    let i = behind_init init c p.0 g in
    so_then _ (At place) MayBe (made_option (maybe init) c) (maybe_made init c p.0 g) (λ a ha.
    so_then _ (At place) MayRead (tree_option (seen_option d (option_map waiting test))) (option_made d i test q.0) (λ t ht.
    so_then _ (At place) MayBe (made_option (maybe change) d) (maybe_made change d r.0 i) (λ ch hc.
    so_map (λ b. made.For a t ch b) (At place) Good (flow body.0 (in_loop d)).made (body.1 r.1 (in_loop d) i).0 (λ e he.
    fine_for place a t ch e
    ∙ and_from (or_so (λ b. b) (option_map fine a)) (or_so is_short_expr t && (or_so (λ b. b) (option_map fine ch) && fine e)) ha
    (and_from (or_so is_short_expr t) (or_so (λ b. b) (option_map fine ch) && fine e) ht (and_from (or_so (λ b. b) (option_map fine ch)) (fine e) hc he))))))

abbrev step : StmtKind-F (Place → Scope → Flow) (Scope → Flow) → Place → Scope → Flow
step kind = flow_of (step_of kind)

abbrev kind_flow : StmtKind → Place → Scope → Flow
kind_flow = fold-StmtKind (Place → Scope → Flow) (Scope → Flow) step (λ x. x.kind x.place)

abbrev kind_short : StmtKind → Bool
kind_short = fold-StmtKind Bool Bool stmt_step (λ x. x.kind)

abbrev ShortKind : Type 0
ShortKind = (k : StmtKind) × ((place : Place) → ShortFlow (kind_short k) (kind_flow k place))

layer : (y : StmtKind-F ShortKind ShortStmt) (place : Place) →
    ShortFlow (stmt_step (map-StmtKind StmtKind Stmt Bool Bool kind_short stmt_is_short (map-StmtKind ShortKind ShortStmt StmtKind Stmt (λ k. k.0) (λ x. x.0) y)))
    (step (map-StmtKind StmtKind Stmt (Place → Scope → Flow) (Scope → Flow) kind_flow flow (map-StmtKind ShortKind ShortStmt StmtKind Stmt (λ k. k.0) (λ x. x.0) y)) place)
layer (s.Block all) place w c g = whole c place (Block (flows all))
    (so_map made.Block (At place) AllGood (made_along (Some []) (flows all) c) (along all [] c w g refl) (λ ts h. fine_block place ts ∙ map_all ts h)) refl
layer s.Empty place w c g = whole c place Empty (fine_empty place) refl
layer (s.Local t name value) place w c g = whole c place (Local t name (option_map waiting value))
    (so_map (λ v. made.Local (receiver_slots c.is_static + count c) t v) (At place) MayRead (tree_option (seen_option c (option_map waiting value))) (option_made c g value w) (λ v h. fine_local place (receiver_slots c.is_static + count c) t v ∙ h)) refl
layer (s.If test first None) place w c g = whole c place (If (waiting test) (flow first.0) (maybe None)) (if_made test first None c place w g) refl
layer (s.If test first (Some second)) place w c g = whole c place (If (waiting test) (flow first.0) (maybe (Some second))) (if_made test first (Some second) c place w g) refl
layer (s.While test body) place w c g =
    let v = and_parts (expr_is_short test) (stmt_is_short body.0) w in
    whole c place (While (waiting test) (flow body.0))
    (so_then _ (At place) Plain (tree_of (operand c (waiting test)).seen) (operand_made c g test v.0) (λ t ht.
    so_map (λ b. made.While t b) (At place) Good (flow body.0 (in_loop c)).made (body.1 v.1 (in_loop c) g).0 (λ e he. fine_while place t e ∙ and_from (is_short_expr t) (fine e) ht he))) refl
layer (s.For None test None body) place w c g = whole c place (For (maybe None) (option_map waiting test) (maybe None) (flow body.0)) (for_made None test None body c place w g) refl
layer (s.For None test (Some change) body) place w c g = whole c place (For (maybe None) (option_map waiting test) (maybe (Some change)) (flow body.0)) (for_made None test (Some change) body c place w g) refl
layer (s.For (Some init) test None body) place w c g = whole c place (For (maybe (Some init)) (option_map waiting test) (maybe None) (flow body.0)) (for_made (Some init) test None body c place w g) refl
layer (s.For (Some init) test (Some change) body) place w c g = whole c place (For (maybe (Some init)) (option_map waiting test) (maybe (Some change)) (flow body.0)) (for_made (Some init) test (Some change) body c place w g) refl
layer s.Break place w c g = whole c place (Jump true) (fine_break place) refl
layer s.Continue place w c g = whole c place (Jump false) (fine_continue place) refl
layer (s.Return value) place w c g = whole c place (Return (option_map waiting value))
    (so_map made.Return (At place) MayRead (tree_option (seen_option c (option_map waiting value))) (option_made c g value w) (λ v h. fine_return place v ∙ h)) refl
layer (s.Assign left n right) place w c g =
    let v = and_parts (expr_is_short left) (expr_is_short right) w in
    whole c place (Assign (waiting left) n (waiting right))
    (so_then _ (At place) Plain (tree_of (operand c (waiting left)).seen) (operand_made c g left v.0) (λ l hl.
    so_map (λ r. made.Assign l n r) (At place) Plain (tree_of (operand c (waiting right)).seen) (operand_made c g right v.1) (λ r hr. fine_assign place l n r ∙ and_from (is_short_expr l) (is_short_expr r) hl hr))) refl
layer (s.Bump left up) place w c g = whole c place (Bump (waiting left) up)
    (so_map (λ l. made.Bump l up) (At place) Plain (tree_of (operand c (waiting left)).seen) (operand_made c g left w) (λ l hl. fine_bump place l up ∙ hl)) refl
layer (s.Run x) place w c g = whole c place (Run (waiting x))
    (so_map made.Run (At place) Plain (tree_of (part c x role.Alone).seen) (alone_made c g x w) (λ e h. fine_run place e ∙ h)) refl

flow_short : (x : Stmt) → ShortFlow (stmt_is_short x) (flow x)
flow_short = ind-Stmt (λ k. (place : Place) → ShortFlow (kind_short k) (kind_flow k place)) (λ x. ShortFlow (stmt_is_short x) (flow x))
    (λ x y is. with_both (λ (b : Bool) (f : Place → Scope → Flow). (place : Place) → ShortFlow b (f place)) _ _ _ _ (fold-roll-StmtKind Bool Bool stmt_step (λ x. x.kind) x) (fold-roll-StmtKind (Place → Scope → Flow) (Scope → Flow) step (λ x. x.kind x.place) x)
    (subst (λ (z : StmtKind-F StmtKind Stmt). (place : Place) → ShortFlow (stmt_step (map-StmtKind StmtKind Stmt Bool Bool kind_short stmt_is_short z)) (step (map-StmtKind StmtKind Stmt (Place → Scope → Flow) (Scope → Flow) kind_flow flow z) place)) is (layer y)))
    (λ x y is. with_both ShortFlow _ _ _ _ (fold-roll-Stmt Bool Bool stmt_step (λ x. x.kind) x) (fold-roll-Stmt (Place → Scope → Flow) (Scope → Flow) step (λ x. x.kind x.place) x)
    (subst (λ (z : s.Stmt-F StmtKind Stmt). ShortFlow (kind_short z.kind) (kind_flow z.kind z.place)) is (y.kind.1 y.place)))

short_all : List Stmt → List ShortStmt
short_all [] = []
short_all (x ∷ xs) = (x, flow_short x) ∷ short_all xs

flows_all : (xs : List Stmt) → flows (short_all xs) ≡ map flow xs
unfolding short_all
flows_all [] = refl
flows_all (x ∷ xs) = ap (λ (fs : List (Scope → Flow)). flow x ∷ fs) (flows_all xs)

words_all : (xs : List Stmt) → list_all stmt_is_short xs ≡ true → are_short (short_all xs) ≡ true
unfolding short_all
words_all [] w = refl
words_all (x ∷ xs) w = let v = and_parts (stmt_is_short x) (list_all stmt_is_short xs) w in and_from (stmt_is_short x) (are_short (short_all xs)) v.0 (words_all xs v.1)

-- the statements of a block
pub block_short : (xs : List Stmt) (c : Scope) → list_all stmt_is_short xs ≡ true → AreShort c.heads → OnMade AllGood (made_along (Some []) (map flow xs) c)
block_short xs c w g = subst (λ (fs : List (Scope → Flow)). OnMade AllGood (made_along (Some []) fs c)) (flows_all xs) (along (short_all xs) [] c (words_all xs w) g refl)
