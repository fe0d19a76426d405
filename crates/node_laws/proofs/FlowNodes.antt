-- A statement has a tree with at most twice as many nodes as are written.
use Rattle.std.proofs.Common.{◌≡◌, ℕ, ◌+◌, ◌*◌, ◌≤◌, Bool, true, false, List, [], ◌∷◌, ◌++◌, map, Option, Some, None, refl, sym, ap, subst, arith}
use Rattle.std.specs.Prelude.{sum}
use Rattle.std.specs.Option.{option_map, option_and_then}
use Rattle.std.proofs.lemmas.List.Sums.{sum_by-cons}
use Rattle.jp_pred.specs.declared.ty.Ty.{Ty}
use Rattle.jp_ast.specs.declared.token.Place.{Place}
use Rattle.jp_ast.specs.declared.expr.Expr.{Expr}
use Rattle.jp_ast.specs.declared.stmt.Stmt.{Stmt}
use Rattle.jp_ast.specs.declared.stmt.StmtKind.{StmtKind, StmtKind-F}
use Rattle.jp_ast.specs.declared.stmt.StmtKind.TheOpen as s
use Rattle.jp_ast.specs.declared.stmt.StmtKind.TheFolds.{ind-Stmt, fold-StmtKind, fold-roll-Stmt, fold-roll-StmtKind, map-StmtKind}
use Rattle.jp_ast.specs.Counts as written
use Rattle.jp_meaning.specs.declared.expr.TypedExpr.{TypedExpr}
use Rattle.jp_meaning.specs.declared.stmt.TypedStmt.{TypedStmt}
use Rattle.jp_meaning.specs.declared.stmt.TypedStmtKind.TheVariants as made
use Rattle.type_rules.specs.declared.fault.TypeFault.{TypeFault}
use Rattle.type_rules.specs.declared.scope.Scope.{Scope}
use Rattle.type_rules.specs.declared.seen.Role.TheVariants as role
use Rattle.type_rules.specs.declared.seen.Seen.{Seen}
use Rattle.type_rules.specs.declared.seen.Seen.TheVariants as seen
use Rattle.type_rules.specs.Names.{receiver_slots}
use Rattle.type_rules.specs.Nodes.{AtStmt}
use Rattle.type_rules.specs.Table.{own_faults}
use Rattle.type_rules.specs.Expressions.{part}
use Rattle.type_rules.specs.Statements.{Flow, waiting, Step, Block, Empty, Local, If, While, For, Jump, Return, Assign, Bump, Run, step_of, in_loop, count, after_init, operand, seen_option, pushed, made_along, node_in, tree_of, tree_option, made_option, resolved, statement_at, flow_of, flow}
use Rattle.gen_bounds.specs.Nodes.{total, or_none, expr_nodes, stmt_nodes}
use Rattle.node_laws.proofs.CountedForms.{count_block, count_empty, count_declared, count_if, count_while, count_for, count_break, count_continue, count_return, count_assign, count_bump, count_run}
use Rattle.node_laws.proofs.SeenNodes.{Few, sum_cons, part_few}

-- what is known of what there is, if there is something
abbrev pub OnMade : {A : Type 0} → (A → Type 0) → Option A → Type 0
OnMade P None = Unit {0}
OnMade P (Some x) = P x

pub map_made : {A B : Type 0} (f : A → B) (P : B → Type 0) (o : Option A) → OnMade (λ x. P (f x)) o → OnMade P (option_map f o)
map_made f P None h = tt
map_made f P (Some x) h = h

pub then_made : {A B : Type 0} (f : A → Option B) (P : B → Type 0) (o : Option A) → OnMade (λ x. OnMade P (f x)) o → OnMade P (option_and_then f o)
then_made f P None h = tt
then_made f P (Some x) h = h

pub so_made : {A : Type 0} (P Q : A → Type 0) (o : Option A) → OnMade P o → ((x : A) → P x → Q x) → OnMade Q o
so_made P Q None h k = tt
so_made P Q (Some x) h k = k x h

-- a tree for so many written nodes
abbrev pub FewExpr : ℕ → TypedExpr → Type 0
FewExpr k e = expr_nodes e ≤ 2 * k

abbrev pub FewStmt : ℕ → TypedStmt → Type 0
FewStmt k t = stmt_nodes t ≤ 2 * k

abbrev FewOption : ℕ → Option TypedExpr → Type 0
FewOption k e = or_none expr_nodes e ≤ 2 * k

abbrev FewMaybe : ℕ → Option TypedStmt → Type 0
FewMaybe k t = or_none (λ n. n) (option_map stmt_nodes t) ≤ 2 * k

-- EXPRESSIONS

tree_made : (k : ℕ) (x : Seen) → Few k x → OnMade (FewExpr k) (tree_of x)
tree_made k seen.Faulty h = tt
tree_made k (seen.Value v) h = h
tree_made k (seen.Class name) h = tt
tree_made k (seen.Text text) h = tt

operand_made : (c : Scope) (x : Expr) → OnMade (FewExpr (written.expr_nodes x)) (tree_of (operand c (waiting x)).seen)
operand_made c x = tree_made (written.expr_nodes x) (operand c (waiting x)).seen (part_few c x role.Operand)

alone_made : (c : Scope) (x : Expr) → OnMade (FewExpr (written.expr_nodes x)) (tree_of (part c x role.Alone).seen)
alone_made c x = tree_made (written.expr_nodes x) (part c x role.Alone).seen (part_few c x role.Alone)

option_made : (c : Scope) (x : Option Expr) → OnMade (FewOption (written.of_option written.expr_nodes x)) (tree_option (seen_option c (option_map waiting x)))
option_made c None = omega arith
option_made c (Some x) = map_made Some (FewOption (written.expr_nodes x)) (tree_of (operand c (waiting x)).seen) (operand_made c x)

-- STATEMENTS

abbrev pub FewFlow : ℕ → (Scope → Flow) → Type 0
FewFlow k f = (c : Scope) → OnMade (FewStmt k) (f c).made

settle : (P : TypedStmt → Type 0) (fs : List TypeFault) (o : Option TypedStmt) → OnMade P o → OnMade P (elim fs as (λ x. Option TypedStmt) [ [] ↦ o | y ∷ ys ↦ None ])
settle P [] o h = h
settle P (y ∷ ys) o h = tt

whole : (k : ℕ) (c : Scope) (place : Place) (step : Step) → OnMade (λ t. FewStmt k (statement_at place t)) (resolved c step) → OnMade (FewStmt k) (flow_of step place c).made
whole k c place step h = settle (FewStmt k) (own_faults place (AtStmt c (node_in c step))) (option_map (statement_at place) (resolved c step)) (map_made (statement_at place) (FewStmt k) (resolved c step) h)

abbrev FewOne : Type 0
FewOne = (x : Stmt) × FewFlow (written.stmt_nodes x) (flow x)

abbrev flows : List FewOne → List (Scope → Flow)
flows xs = map flow (map (λ (x : FewOne). x.0) xs)

abbrev nodes_in : List FewOne → List ℕ
nodes_in xs = map written.stmt_nodes (map (λ (x : FewOne). x.0) xs)

nothing_more : (fs : List (Scope → Flow)) (c : Scope) (P : List TypedStmt → Type 0) → OnMade P (made_along None fs c)
nothing_more [] c P = tt
nothing_more (f ∷ fs) c P = nothing_more fs (f c).after P

one_more : (done : List TypedStmt) (t : TypedStmt) → total (map stmt_nodes (done ++ t ∷ [])) ≡ total (map stmt_nodes done) + stmt_nodes t
one_more [] t = omega arith
one_more (d ∷ ds) t = let h = one_more ds t in omega arith

-- statements behind those so far
abbrev pub FewAll : ℕ → List TypedStmt → Type 0
FewAll k ts = total (map stmt_nodes ts) ≤ 2 * k

along : (xs : List FewOne) (done : List TypedStmt) (n : ℕ) (c : Scope) → FewAll n done → OnMade (FewAll (n + sum (nodes_in xs))) (made_along (Some done) (flows xs) c)
along [] done n c h = omega arith
along (x ∷ xs) done n c h =
    let k = written.stmt_nodes x.0 in
    let e = sum_cons k (nodes_in xs) in
    by_made (flow x.0 c).made (x.1 c) (λ t j.
    let f = one_more done t in
    so_made (FewAll ((n + k) + sum (nodes_in xs))) (FewAll (n + sum (nodes_in (x ∷ xs)))) (made_along (Some (done ++ t ∷ [])) (flows xs) (flow x.0 c).after) (along xs (done ++ t ∷ []) (n + k) (flow x.0 c).after (omega arith)) (λ ts g. omega arith)) where
      by_made : (o : Option TypedStmt) → OnMade (FewStmt (written.stmt_nodes x.0)) o → ((t : TypedStmt) → FewStmt (written.stmt_nodes x.0) t → OnMade (FewAll (n + sum (nodes_in (x ∷ xs)))) (made_along (Some (done ++ t ∷ [])) (flows xs) (flow x.0 c).after)) →
          OnMade (FewAll (n + sum (nodes_in (x ∷ xs)))) (made_along (pushed (Some done) o) (flows xs) (flow x.0 c).after)
      by_made None m later = nothing_more (flows xs) (flow x.0 c).after (FewAll (n + sum (nodes_in (x ∷ xs))))
      by_made (Some t) m later = later t m

abbrev maybe : Option FewOne → Option (Scope → Flow)
maybe x = option_map flow (option_map (λ (x : FewOne). x.0) x)

abbrev maybe_nodes : Option FewOne → ℕ
maybe_nodes x = written.or_zero (option_map written.stmt_nodes (option_map (λ (x : FewOne). x.0) x))

maybe_made : (x : Option FewOne) (c : Scope) → OnMade (FewMaybe (maybe_nodes x)) (made_option (maybe x) c)
maybe_made None c = omega arith
maybe_made (Some x) c = map_made Some (FewMaybe (written.stmt_nodes x.0)) (flow x.0 c).made (x.1 c)

if_made : (test : Expr) (first : FewOne) (second : Option FewOne) (c : Scope) (place : Place) → OnMade (λ t. FewStmt (1 + written.expr_nodes test + written.stmt_nodes first.0 + maybe_nodes second) (statement_at place t)) (resolved c (If (waiting test) (flow first.0) (maybe second)))
if_made test first second c place =
    let k = written.expr_nodes test in let l = written.stmt_nodes first.0 in let j = maybe_nodes second in
    then_made _ (λ t. FewStmt (1 + k + l + j) (statement_at place t)) (tree_of (operand c (waiting test)).seen) (so_made (FewExpr k) _ (tree_of (operand c (waiting test)).seen) (operand_made c test) (λ t ht.
    then_made _ (λ t. FewStmt (1 + k + l + j) (statement_at place t)) (flow first.0 c).made (so_made (FewStmt l) _ (flow first.0 c).made (first.1 c) (λ a ha.
    map_made (λ b. made.If t a b) (λ t. FewStmt (1 + k + l + j) (statement_at place t)) (made_option (maybe second) c) (so_made (FewMaybe j) _ (made_option (maybe second) c) (maybe_made second c) (λ b hb.
    let f = count_if place t a b in omega arith))))))

while_made : (test : Expr) (body : FewOne) (c : Scope) (place : Place) → OnMade (λ t. FewStmt (1 + written.expr_nodes test + written.stmt_nodes body.0) (statement_at place t)) (resolved c (While (waiting test) (flow body.0)))
while_made test body c place =
    let k = written.expr_nodes test in let l = written.stmt_nodes body.0 in
    then_made _ (λ t. FewStmt (1 + k + l) (statement_at place t)) (tree_of (operand c (waiting test)).seen) (so_made (FewExpr k) _ (tree_of (operand c (waiting test)).seen) (operand_made c test) (λ t ht.
    map_made (λ b. made.While t b) (λ t. FewStmt (1 + k + l) (statement_at place t)) (flow body.0 (in_loop c)).made (so_made (FewStmt l) _ (flow body.0 (in_loop c)).made (body.1 (in_loop c)) (λ b hb.
    let f = count_while place t b in omega arith))))

for_made : (init : Option FewOne) (test : Option Expr) (change : Option FewOne) (body : FewOne) (c : Scope) (place : Place) →
    OnMade (λ t. FewStmt (1 + maybe_nodes init + written.of_option written.expr_nodes test + maybe_nodes change + written.stmt_nodes body.0) (statement_at place t)) (resolved c (For (maybe init) (option_map waiting test) (maybe change) (flow body.0)))
for_made init test change body c place =
    let d = after_init (maybe init) c in
    let p = maybe_nodes init in let q = written.of_option written.expr_nodes test in let r = maybe_nodes change in let u = written.stmt_nodes body.0 in
    then_made _ (λ t. FewStmt (1 + p + q + r + u) (statement_at place t)) (made_option (maybe init) c) (so_made (FewMaybe p) _ (made_option (maybe init) c) (maybe_made init c) (λ i hi.
    then_made _ (λ t. FewStmt (1 + p + q + r + u) (statement_at place t)) (tree_option (seen_option d (option_map waiting test))) (so_made (FewOption q) _ (tree_option (seen_option d (option_map waiting test))) (option_made d test) (λ t ht.
    then_made _ (λ t. FewStmt (1 + p + q + r + u) (statement_at place t)) (made_option (maybe change) d) (so_made (FewMaybe r) _ (made_option (maybe change) d) (maybe_made change d) (λ ch hc.
    map_made (λ b. made.For i t ch b) (λ t. FewStmt (1 + p + q + r + u) (statement_at place t)) (flow body.0 (in_loop d)).made (so_made (FewStmt u) _ (flow body.0 (in_loop d)).made (body.1 (in_loop d)) (λ b hb.
    let f = count_for place i t ch b in omega arith))))))))

assign_made : (left right : Expr) (n : ℕ) (c : Scope) (place : Place) → OnMade (λ t. FewStmt (1 + written.expr_nodes left + written.expr_nodes right) (statement_at place t)) (resolved c (Assign (waiting left) n (waiting right)))
assign_made left right n c place =
    let k = written.expr_nodes left in let l = written.expr_nodes right in
    then_made _ (λ t. FewStmt (1 + k + l) (statement_at place t)) (tree_of (operand c (waiting left)).seen) (so_made (FewExpr k) _ (tree_of (operand c (waiting left)).seen) (operand_made c left) (λ x hx.
    map_made (λ r. made.Assign x n r) (λ t. FewStmt (1 + k + l) (statement_at place t)) (tree_of (operand c (waiting right)).seen) (so_made (FewExpr l) _ (tree_of (operand c (waiting right)).seen) (operand_made c right) (λ r hr.
    let f = count_assign place x n r in omega arith))))

block_made : (all : List FewOne) (c : Scope) (place : Place) → OnMade (λ t. FewStmt (1 + sum (nodes_in all)) (statement_at place t)) (resolved c (Block (flows all)))
block_made all c place =
    let k = sum (nodes_in all) in
    map_made made.Block (λ t. FewStmt (1 + k) (statement_at place t)) (made_along (Some []) (flows all) c) (so_made (FewAll (0 + k)) _ (made_along (Some []) (flows all) c) (along all [] 0 c (omega arith)) (λ ts h. let f = count_block place ts in omega arith))

local_made : (t : Ty) (slot : ℕ) (value : Option Expr) (c : Scope) (place : Place) → OnMade (λ x. FewStmt (1 + written.of_option written.expr_nodes value) (statement_at place x)) (option_map (λ v. made.Local slot t v) (tree_option (seen_option c (option_map waiting value))))
local_made t slot value c place =
    let k = written.of_option written.expr_nodes value in
    map_made (λ v. made.Local slot t v) (λ x. FewStmt (1 + k) (statement_at place x)) (tree_option (seen_option c (option_map waiting value))) (so_made (FewOption k) _ (tree_option (seen_option c (option_map waiting value))) (option_made c value) (λ v h. let f = count_declared place slot t v in omega arith))

return_made : (value : Option Expr) (c : Scope) (place : Place) → OnMade (λ x. FewStmt (1 + written.of_option written.expr_nodes value) (statement_at place x)) (resolved c (Return (option_map waiting value)))
return_made value c place =
    let k = written.of_option written.expr_nodes value in
    map_made made.Return (λ x. FewStmt (1 + k) (statement_at place x)) (tree_option (seen_option c (option_map waiting value))) (so_made (FewOption k) _ (tree_option (seen_option c (option_map waiting value))) (option_made c value) (λ v h. let f = count_return place v in omega arith))

bump_made : (left : Expr) (up : Bool) (c : Scope) (place : Place) → OnMade (λ x. FewStmt (1 + written.expr_nodes left) (statement_at place x)) (resolved c (Bump (waiting left) up))
bump_made left up c place =
    let k = written.expr_nodes left in
    map_made (λ l. made.Bump l up) (λ x. FewStmt (1 + k) (statement_at place x)) (tree_of (operand c (waiting left)).seen) (so_made (FewExpr k) _ (tree_of (operand c (waiting left)).seen) (operand_made c left) (λ l h. let f = count_bump place l up in omega arith))

run_made : (x : Expr) (c : Scope) (place : Place) → OnMade (λ t. FewStmt (1 + written.expr_nodes x) (statement_at place t)) (resolved c (Run (waiting x)))
run_made x c place =
    let k = written.expr_nodes x in
    map_made made.Run (λ t. FewStmt (1 + k) (statement_at place t)) (tree_of (part c x role.Alone).seen) (so_made (FewExpr k) _ (tree_of (part c x role.Alone).seen) (alone_made c x) (λ v h. let f = count_run place v in omega arith))

abbrev step : StmtKind-F (Place → Scope → Flow) (Scope → Flow) → Place → Scope → Flow
step kind = flow_of (step_of kind)

abbrev kind_flow : StmtKind → Place → Scope → Flow
kind_flow = fold-StmtKind (Place → Scope → Flow) (Scope → Flow) step (λ x. x.kind x.place)

abbrev kind_nodes : StmtKind → ℕ
kind_nodes = fold-StmtKind ℕ ℕ written.stmt_step (λ x. x.kind)

abbrev FewKind : Type 0
FewKind = (k : StmtKind) × ((place : Place) → FewFlow (kind_nodes k) (kind_flow k place))

layer : (y : StmtKind-F FewKind FewOne) (place : Place) →
    FewFlow (written.stmt_step (map-StmtKind StmtKind Stmt ℕ ℕ kind_nodes written.stmt_nodes (map-StmtKind FewKind FewOne StmtKind Stmt (λ k. k.0) (λ x. x.0) y)))
    (step (map-StmtKind StmtKind Stmt (Place → Scope → Flow) (Scope → Flow) kind_flow flow (map-StmtKind FewKind FewOne StmtKind Stmt (λ k. k.0) (λ x. x.0) y)) place)
layer (s.Block all) place c = whole (1 + sum (nodes_in all)) c place (Block (flows all)) (block_made all c place)
layer s.Empty place c = whole 1 c place Empty (let f = count_empty place in omega arith)
layer (s.Local t name value) place c = whole (1 + written.of_option written.expr_nodes value) c place (Local t name (option_map waiting value)) (local_made t (receiver_slots c.is_static + count c) value c place)
layer (s.If test first None) place c = whole (1 + written.expr_nodes test + written.stmt_nodes first.0 + 0) c place (If (waiting test) (flow first.0) None) (if_made test first None c place)
layer (s.If test first (Some second)) place c = whole (1 + written.expr_nodes test + written.stmt_nodes first.0 + written.stmt_nodes second.0) c place (If (waiting test) (flow first.0) (Some (flow second.0))) (if_made test first (Some second) c place)
layer (s.While test body) place c = whole (1 + written.expr_nodes test + written.stmt_nodes body.0) c place (While (waiting test) (flow body.0)) (while_made test body c place)
layer (s.For None test None body) place c = whole _ c place (For (maybe None) (option_map waiting test) (maybe None) (flow body.0)) (for_made None test None body c place)
layer (s.For None test (Some change) body) place c = whole _ c place (For (maybe None) (option_map waiting test) (maybe (Some change)) (flow body.0)) (for_made None test (Some change) body c place)
layer (s.For (Some init) test None body) place c = whole _ c place (For (maybe (Some init)) (option_map waiting test) (maybe None) (flow body.0)) (for_made (Some init) test None body c place)
layer (s.For (Some init) test (Some change) body) place c = whole _ c place (For (maybe (Some init)) (option_map waiting test) (maybe (Some change)) (flow body.0)) (for_made (Some init) test (Some change) body c place)
layer s.Break place c = whole 1 c place (Jump true) (let f = count_break place in omega arith)
layer s.Continue place c = whole 1 c place (Jump false) (let f = count_continue place in omega arith)
layer (s.Return value) place c = whole (1 + written.of_option written.expr_nodes value) c place (Return (option_map waiting value)) (return_made value c place)
layer (s.Assign left n right) place c = whole (1 + written.expr_nodes left + written.expr_nodes right) c place (Assign (waiting left) n (waiting right)) (assign_made left right n c place)
layer (s.Bump left up) place c = whole (1 + written.expr_nodes left) c place (Bump (waiting left) up) (bump_made left up c place)
layer (s.Run x) place c = whole (1 + written.expr_nodes x) c place (Run (waiting x)) (run_made x c place)

with_both : {A B : Type 0} (Q : A → B → Type 0) (x z : A) (y u : B) → x ≡ z → y ≡ u → Q z u → Q x y
with_both Q x z y u e f q = subst (λ v. Q v y) (sym e) (subst (λ v. Q z v) (sym f) q)

flow_few : (x : Stmt) → FewFlow (written.stmt_nodes x) (flow x)
flow_few = ind-Stmt (λ k. (place : Place) → FewFlow (kind_nodes k) (kind_flow k place)) (λ x. FewFlow (written.stmt_nodes x) (flow x))
    (λ x y is. with_both (λ (f : ℕ) (g : Place → Scope → Flow). (place : Place) → FewFlow f (g place)) _ _ _ _ (fold-roll-StmtKind ℕ ℕ written.stmt_step (λ x. x.kind) x) (fold-roll-StmtKind (Place → Scope → Flow) (Scope → Flow) step (λ x. x.kind x.place) x)
    (subst (λ (z : StmtKind-F StmtKind Stmt). (place : Place) → FewFlow (written.stmt_step (map-StmtKind StmtKind Stmt ℕ ℕ kind_nodes written.stmt_nodes z)) (step (map-StmtKind StmtKind Stmt (Place → Scope → Flow) (Scope → Flow) kind_flow flow z) place)) is (layer y)))
    (λ x y is. with_both FewFlow _ _ _ _ (fold-roll-Stmt ℕ ℕ written.stmt_step (λ x. x.kind) x) (fold-roll-Stmt (Place → Scope → Flow) (Scope → Flow) step (λ x. x.kind x.place) x)
    (subst (λ (z : s.Stmt-F StmtKind Stmt). FewFlow (kind_nodes z.kind) (kind_flow z.kind z.place)) is (y.kind.1 y.place)))

-- the statements of a block
pub block_few : (xs : List Stmt) (c : Scope) → OnMade (FewAll (written.body_nodes xs)) (made_along (Some []) (map flow xs) c)
block_few xs c =
    let h = along (few xs) [] 0 c (omega arith) in
    let e = counted xs in
    so_made (FewAll (0 + sum (nodes_in (few xs)))) (FewAll (written.body_nodes xs)) (made_along (Some []) (map flow xs) c)
    (subst (λ (fs : List (Scope → Flow)). OnMade (FewAll (0 + sum (nodes_in (few xs)))) (made_along (Some []) fs c)) (as_flows xs) h) (λ ts g. omega arith) where
      few : List Stmt → List FewOne
      few [] = []
      few (x ∷ xs) = (x, flow_few x) ∷ few xs

      as_flows : (xs : List Stmt) → flows (few xs) ≡ map flow xs
      as_flows [] = refl
      as_flows (x ∷ xs) = ap (λ (fs : List (Scope → Flow)). flow x ∷ fs) (as_flows xs)

      counted : (xs : List Stmt) → sum (nodes_in (few xs)) ≡ written.body_nodes xs
      counted [] = refl
      counted (x ∷ xs) =
          let a = sum_cons (written.stmt_nodes x) (nodes_in (few xs)) in
          let b : written.body_nodes (x ∷ xs) ≡ written.stmt_nodes x + written.body_nodes xs = sum_by-cons written.stmt_nodes x xs in
          let h = counted xs in omega arith
