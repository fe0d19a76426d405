-- A statement without a fault has a tree that calls ordinary methods.
use Rattle.std.proofs.Common.{◌≡◌, ◌+◌, Bool, true, false, List, [], ◌∷◌, ◌++◌, map, Option, Some, None, refl, sym, ap, ◌∙◌, subst}
use Rattle.std.specs.Prelude.{◌&&◌}
use Rattle.std.specs.List.{list_all}
use Rattle.std.specs.Option.{option_map}
use Rattle.jp_ast.specs.declared.token.Place.{Place}
use Rattle.jp_ast.specs.declared.expr.Expr.{Expr}
use Rattle.jp_ast.specs.declared.stmt.Stmt.{Stmt}
use Rattle.jp_ast.specs.declared.stmt.StmtKind.{StmtKind, StmtKind-F}
use Rattle.jp_ast.specs.declared.stmt.StmtKind.TheOpen as s
use Rattle.jp_ast.specs.declared.stmt.StmtKind.TheFolds.{ind-Stmt, fold-StmtKind, fold-roll-Stmt, fold-roll-StmtKind, map-StmtKind}
use Rattle.jp_meaning.specs.declared.expr.TypedExpr.{TypedExpr}
use Rattle.jp_meaning.specs.declared.stmt.TypedStmt.{TypedStmt}
use Rattle.jp_meaning.specs.declared.stmt.TypedStmtKind.{TypedStmtKind}
use Rattle.jp_meaning.specs.declared.stmt.TypedStmtKind.TheVariants as made
use Rattle.type_rules.specs.declared.fault.TypeFault.{TypeFault}
use Rattle.type_rules.specs.declared.scope.Scope.{Scope}
use Rattle.type_rules.specs.declared.seen.Role.TheVariants as role
use Rattle.type_rules.specs.declared.seen.Seen.{Seen}
use Rattle.type_rules.specs.declared.seen.Seen.TheVariants as seen
use Rattle.type_rules.specs.Names.{receiver_slots}
use Rattle.type_rules.specs.Nodes.{AtStmt}
use Rattle.type_rules.specs.Table.{own_faults}
use Rattle.type_rules.specs.Expressions.{part}
use Rattle.type_rules.specs.Statements.{Flow, waiting, Step, Block, Empty, Local, If, While, For, Jump, Return, Assign, Bump, Run, step_of, in_loop, count, after_init, operand, seen_option, pushed, made_along, node_in, scope_behind, tree_of, tree_option, made_option, resolved, statement_at, flow_of, flow}
use Rattle.code_fits.specs.Encodable.{or_so}
use Rattle.code_fits.specs.Ordinary.{calls_ordinary, stmt_calls_ordinary}
use Rattle.typed_code.proofs.Making.{OnMade, so_then, so_map}
use Rattle.typed_code.proofs.OrdinaryForms.{fine_block, fine_empty, fine_local, fine_if, fine_while, fine_for, fine_break, fine_continue, fine_return, fine_assign, fine_bump, fine_run}
use Rattle.typed_code.proofs.SeenTold.{and_so, of_both}
use Rattle.typed_code.proofs.SeenOrdinary.{AreOrdinary, Usual, part_usual}

abbrev fine : TypedStmt → Bool
fine = stmt_calls_ordinary

-- EXPRESSIONS

abbrev Plain : TypedExpr → Type 0
Plain e = calls_ordinary e ≡ true

tree_made : (x : Seen) → Usual x → OnMade Plain (tree_of x)
tree_made seen.Faulty h = tt
tree_made (seen.Value k) h = h
tree_made (seen.Class name) h = tt
tree_made (seen.Text text) h = tt

operand_made : (c : Scope) → AreOrdinary c.heads → (x : Expr) → OnMade Plain (tree_of (operand c (waiting x)).seen)
operand_made c g x = tree_made (operand c (waiting x)).seen (part_usual c g x role.Operand)

alone_made : (c : Scope) → AreOrdinary c.heads → (x : Expr) → OnMade Plain (tree_of (part c x role.Alone).seen)
alone_made c g x = tree_made (part c x role.Alone).seen (part_usual c g x role.Alone)

abbrev MayCall : Option TypedExpr → Type 0
MayCall v = or_so calls_ordinary v ≡ true

option_made : (c : Scope) → AreOrdinary c.heads → (x : Option Expr) → OnMade MayCall (tree_option (seen_option c (option_map waiting x)))
option_made c g None = refl
option_made c g (Some x) = so_map Some MayCall Plain (tree_of (operand c (waiting x)).seen) (operand_made c g x) (λ e h. h)

-- STATEMENTS

abbrev Good : TypedStmt → Type 0
Good t = fine t ≡ true

abbrev pub AllOrdinary : List TypedStmt → Type 0
AllOrdinary ts = list_all fine ts ≡ true

abbrev MayBe : Option TypedStmt → Type 0
MayBe o = or_so (λ b. b) (option_map fine o) ≡ true

abbrev UsualFlow : (Scope → Flow) → Type 0
UsualFlow f = (c : Scope) → AreOrdinary c.heads → OnMade Good (f c).made × ((f c).after.heads ≡ c.heads)

settle : (P : TypedStmt → Type 0) (fs : List TypeFault) (o : Option TypedStmt) → OnMade P o → OnMade P (elim fs as (λ x. Option TypedStmt) [ [] ↦ o | y ∷ ys ↦ None ])
settle P [] o h = h
settle P (y ∷ ys) o h = tt

abbrev At : Place → TypedStmtKind → Type 0
At place k = Good (statement_at place k)

whole : (c : Scope) (place : Place) (step : Step) → OnMade (At place) (resolved c step) → (scope_behind c step).heads ≡ c.heads → OnMade Good (flow_of step place c).made × ((flow_of step place c).after.heads ≡ c.heads)
whole c place step h e =
    (settle Good (own_faults place (AtStmt c (node_in c step))) (option_map (statement_at place) (resolved c step)) (so_map (statement_at place) Good (At place) (resolved c step) h (λ k q. q)), e)

abbrev UsualStmt : Type 0
UsualStmt = (x : Stmt) × UsualFlow (flow x)

abbrev flows : List UsualStmt → List (Scope → Flow)
flows xs = map flow (map (λ (x : UsualStmt). x.0) xs)

abbrev maybe : Option UsualStmt → Option (Scope → Flow)
maybe x = option_map flow (option_map (λ (x : UsualStmt). x.0) x)

nothing_more : (fs : List (Scope → Flow)) (c : Scope) (P : List TypedStmt → Type 0) → OnMade P (made_along None fs c)
nothing_more [] c P = tt
nothing_more (f ∷ fs) c P = nothing_more fs (f c).after P

one_more : (done : List TypedStmt) (t : TypedStmt) → AllOrdinary done → Good t → AllOrdinary (done ++ t ∷ [])
one_more [] t h k = and_so (fine t) true k refl
one_more (d ∷ ds) t h k = let g = of_both (fine d) (list_all fine ds) h in and_so (fine d) (list_all fine (ds ++ t ∷ [])) g.0 (one_more ds t g.1 k)

along : (xs : List UsualStmt) (done : List TypedStmt) (c : Scope) → AreOrdinary c.heads → AllOrdinary done → OnMade AllOrdinary (made_along (Some done) (flows xs) c)
along [] done c g h = h
along (x ∷ xs) done c g h =
    let f = x.1 c g in
    by_made (flow x.0 c).made f.0 (λ t k. along xs (done ++ t ∷ []) (flow x.0 c).after (subst AreOrdinary (sym f.1) g) (one_more done t h k)) where
      by_made : (o : Option TypedStmt) → OnMade Good o → ((t : TypedStmt) → Good t → OnMade AllOrdinary (made_along (Some (done ++ t ∷ [])) (flows xs) (flow x.0 c).after)) →
          OnMade AllOrdinary (made_along (pushed (Some done) o) (flows xs) (flow x.0 c).after)
      by_made None m later = nothing_more (flows xs) (flow x.0 c).after AllOrdinary
      by_made (Some t) m later = later t m

map_all : (ts : List TypedStmt) → AllOrdinary ts → list_all (λ b. b) (map fine ts) ≡ true
map_all [] h = refl
map_all (t ∷ ts) h = let g = of_both (fine t) (list_all fine ts) h in and_so (fine t) (list_all (λ b. b) (map fine ts)) g.0 (map_all ts g.1)

maybe_made : (x : Option UsualStmt) (c : Scope) → AreOrdinary c.heads → OnMade MayBe (made_option (maybe x) c)
maybe_made None c g = refl
maybe_made (Some x) c g = so_map Some MayBe Good (flow x.0 c).made (x.1 c g).0 (λ t h. h)

behind_init : (x : Option UsualStmt) (c : Scope) → AreOrdinary c.heads → AreOrdinary (after_init (maybe x) c).heads
behind_init None c g = g
behind_init (Some x) c g = subst AreOrdinary (sym (x.1 c g).1) g

if_made : (test : Expr) (first : UsualStmt) (second : Option UsualStmt) (c : Scope) (place : Place) → AreOrdinary c.heads → OnMade (At place) (resolved c (If (waiting test) (flow first.0) (maybe second)))
if_made test first second c place g =
    so_then _ (At place) Plain (tree_of (operand c (waiting test)).seen) (operand_made c g test) (λ t ht.
    so_then _ (At place) Good (flow first.0 c).made (first.1 c g).0 (λ a ha.
    so_map (λ b. made.If t a b) (At place) MayBe (made_option (maybe second) c) (maybe_made second c g) (λ b hb.
    fine_if place t a b ∙ and_so (calls_ordinary t) (fine a && or_so (λ b. b) (option_map fine b)) ht (and_so (fine a) (or_so (λ b. b) (option_map fine b)) ha hb))))

for_made : (init : Option UsualStmt) (test : Option Expr) (change : Option UsualStmt) (body : UsualStmt) (c : Scope) (place : Place) → AreOrdinary c.heads →
    OnMade (At place) (resolved c (For (maybe init) (option_map waiting test) (maybe change) (flow body.0)))
for_made init test change body c place g =
    let d = after_init (maybe init) c in
    let i = behind_init init c g in
    so_then _ (At place) MayBe (made_option (maybe init) c) (maybe_made init c g) (λ a ha.
    so_then _ (At place) MayCall (tree_option (seen_option d (option_map waiting test))) (option_made d i test) (λ t ht.
    so_then _ (At place) MayBe (made_option (maybe change) d) (maybe_made change d i) (λ ch hc.
    so_map (λ b. made.For a t ch b) (At place) Good (flow body.0 (in_loop d)).made (body.1 (in_loop d) i).0 (λ e he.
    fine_for place a t ch e
    ∙ and_so (or_so (λ b. b) (option_map fine a)) (or_so calls_ordinary t && (or_so (λ b. b) (option_map fine ch) && fine e)) ha
    (and_so (or_so calls_ordinary t) (or_so (λ b. b) (option_map fine ch) && fine e) ht (and_so (or_so (λ b. b) (option_map fine ch)) (fine e) hc he))))))

abbrev step : StmtKind-F (Place → Scope → Flow) (Scope → Flow) → Place → Scope → Flow
step kind = flow_of (step_of kind)

abbrev kind_flow : StmtKind → Place → Scope → Flow
kind_flow = fold-StmtKind (Place → Scope → Flow) (Scope → Flow) step (λ x. x.kind x.place)

abbrev UsualKind : Type 0
UsualKind = (k : StmtKind) × ((place : Place) → UsualFlow (kind_flow k place))

layer : (y : StmtKind-F UsualKind UsualStmt) (place : Place) →
    UsualFlow (step (map-StmtKind StmtKind Stmt (Place → Scope → Flow) (Scope → Flow) kind_flow flow (map-StmtKind UsualKind UsualStmt StmtKind Stmt (λ k. k.0) (λ x. x.0) y)) place)
layer (s.Block all) place c g = whole c place (Block (flows all))
    (so_map made.Block (At place) AllOrdinary (made_along (Some []) (flows all) c) (along all [] c g refl) (λ ts h. fine_block place ts ∙ map_all ts h)) refl
layer s.Empty place c g = whole c place Empty (fine_empty place) refl
layer (s.Local t name value) place c g = whole c place (Local t name (option_map waiting value))
    (so_map (λ v. made.Local (receiver_slots c.is_static + count c) t v) (At place) MayCall (tree_option (seen_option c (option_map waiting value))) (option_made c g value) (λ v h. fine_local place (receiver_slots c.is_static + count c) t v ∙ h)) refl
layer (s.If test first None) place c g = whole c place (If (waiting test) (flow first.0) (maybe None)) (if_made test first None c place g) refl
layer (s.If test first (Some second)) place c g = whole c place (If (waiting test) (flow first.0) (maybe (Some second))) (if_made test first (Some second) c place g) refl
layer (s.While test body) place c g = whole c place (While (waiting test) (flow body.0))
    (so_then _ (At place) Plain (tree_of (operand c (waiting test)).seen) (operand_made c g test) (λ t ht.
    so_map (λ b. made.While t b) (At place) Good (flow body.0 (in_loop c)).made (body.1 (in_loop c) g).0 (λ e he. fine_while place t e ∙ and_so (calls_ordinary t) (fine e) ht he))) refl
layer (s.For None test None body) place c g = whole c place (For (maybe None) (option_map waiting test) (maybe None) (flow body.0)) (for_made None test None body c place g) refl
layer (s.For None test (Some change) body) place c g = whole c place (For (maybe None) (option_map waiting test) (maybe (Some change)) (flow body.0)) (for_made None test (Some change) body c place g) refl
layer (s.For (Some init) test None body) place c g = whole c place (For (maybe (Some init)) (option_map waiting test) (maybe None) (flow body.0)) (for_made (Some init) test None body c place g) refl
layer (s.For (Some init) test (Some change) body) place c g = whole c place (For (maybe (Some init)) (option_map waiting test) (maybe (Some change)) (flow body.0)) (for_made (Some init) test (Some change) body c place g) refl
layer s.Break place c g = whole c place (Jump true) (fine_break place) refl
layer s.Continue place c g = whole c place (Jump false) (fine_continue place) refl
layer (s.Return value) place c g = whole c place (Return (option_map waiting value))
    (so_map made.Return (At place) MayCall (tree_option (seen_option c (option_map waiting value))) (option_made c g value) (λ v h. fine_return place v ∙ h)) refl
layer (s.Assign left n right) place c g = whole c place (Assign (waiting left) n (waiting right))
    (so_then _ (At place) Plain (tree_of (operand c (waiting left)).seen) (operand_made c g left) (λ l hl.
    so_map (λ r. made.Assign l n r) (At place) Plain (tree_of (operand c (waiting right)).seen) (operand_made c g right) (λ r hr. fine_assign place l n r ∙ and_so (calls_ordinary l) (calls_ordinary r) hl hr))) refl
layer (s.Bump left up) place c g = whole c place (Bump (waiting left) up)
    (so_map (λ l. made.Bump l up) (At place) Plain (tree_of (operand c (waiting left)).seen) (operand_made c g left) (λ l hl. fine_bump place l up ∙ hl)) refl
layer (s.Run x) place c g = whole c place (Run (waiting x))
    (so_map made.Run (At place) Plain (tree_of (part c x role.Alone).seen) (alone_made c g x) (λ e h. fine_run place e ∙ h)) refl

flow_usual : (x : Stmt) → UsualFlow (flow x)
flow_usual = ind-Stmt (λ k. (place : Place) → UsualFlow (kind_flow k place)) (λ x. UsualFlow (flow x))
    (λ x y is. subst (λ (z : Place → Scope → Flow). (place : Place) → UsualFlow (z place)) (sym (fold-roll-StmtKind (Place → Scope → Flow) (Scope → Flow) step (λ x. x.kind x.place) x))
    (subst (λ (z : StmtKind-F StmtKind Stmt). (place : Place) → UsualFlow (step (map-StmtKind StmtKind Stmt (Place → Scope → Flow) (Scope → Flow) kind_flow flow z) place)) is (layer y)))
    (λ x y is. subst UsualFlow (sym (fold-roll-Stmt (Place → Scope → Flow) (Scope → Flow) step (λ x. x.kind x.place) x))
    (subst (λ (z : s.Stmt-F StmtKind Stmt). UsualFlow (kind_flow z.kind z.place)) is (y.kind.1 y.place)))

usual_all : List Stmt → List UsualStmt
usual_all [] = []
usual_all (x ∷ xs) = (x, flow_usual x) ∷ usual_all xs

flows_all : (xs : List Stmt) → flows (usual_all xs) ≡ map flow xs
unfolding usual_all
flows_all [] = refl
flows_all (x ∷ xs) = ap (λ (fs : List (Scope → Flow)). flow x ∷ fs) (flows_all xs)

-- the statements of a block
pub block_usual : (xs : List Stmt) (c : Scope) → AreOrdinary c.heads → OnMade AllOrdinary (made_along (Some []) (map flow xs) c)
block_usual xs c g = subst (λ (fs : List (Scope → Flow)). OnMade AllOrdinary (made_along (Some []) fs c)) (flows_all xs) (along (usual_all xs) [] c g refl)
