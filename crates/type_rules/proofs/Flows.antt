-- A statement without a fault has a resolved tree.
use Rattle.std.proofs.Common.{◌≡◌, List, [], ◌∷◌, ◌++◌, map, Option, Some, None, true, false, refl, sym, subst}
use Rattle.std.specs.Prelude.{is_some}
use Rattle.std.specs.Option.{option_map}
use Rattle.jp_ast.specs.declared.token.Place.{Place}
use Rattle.jp_ast.specs.declared.expr.Expr.{Expr}
use Rattle.jp_ast.specs.declared.stmt.Stmt.{Stmt}
use Rattle.jp_ast.specs.declared.stmt.StmtKind.{StmtKind, StmtKind-F}
use Rattle.jp_ast.specs.declared.stmt.StmtKind.TheOpen as s
use Rattle.jp_ast.specs.declared.stmt.StmtKind.TheFolds.{ind-Stmt, fold-StmtKind, fold-roll-Stmt, fold-roll-StmtKind, map-StmtKind}
use Rattle.jp_meaning.specs.declared.stmt.TypedStmt.{TypedStmt}
use Rattle.jp_meaning.specs.declared.stmt.TypedStmtKind.TheVariants as made
use Rattle.type_rules.specs.declared.fault.TypeFault.{TypeFault}
use Rattle.type_rules.specs.declared.scope.Scope.{Scope}
use Rattle.type_rules.specs.declared.seen.Role.TheVariants as role
use Rattle.type_rules.specs.declared.seen.Seen.{Seen}
use Rattle.type_rules.specs.declared.seen.Seen.TheVariants as seen
use Rattle.type_rules.specs.Assigning.{is_value}
use Rattle.type_rules.specs.Nodes.{AtStmt, Visit}
use Rattle.type_rules.specs.Table.{own_faults, faults_of}
use Rattle.type_rules.specs.Expressions.{part}
use Rattle.type_rules.specs.Statements.{Flow, waiting, Step, Block, Empty, Local, If, While, For, Jump, Return, Assign, Bump, Run, step_of, in_loop, after_init, operand, seen_option, visits_option, flow_visits, visits_along, pushed, made_along, node_in, visits_inside, tree_of, tree_option, made_option, resolved, statement_at, flow_of, flow}
use Rattle.type_rules.proofs.Soundness.{front_sound, back_sound, own_sound, some_map, some_then}
use Rattle.type_rules.proofs.Values.{operand_is, alone_is, sound}

-- without a fault among its nodes a statement has a resolved tree
abbrev pub Makes : (Scope → Flow) → Type 0
Makes f = (c : Scope) → faults_of (f c).visits ≡ [] → is_some (f c).made ≡ true

abbrev pub Sure : Type 0
Sure = (x : Stmt) × Makes (flow x)

pub some_is : {A : Type 0} (o : Option A) → is_some o ≡ true → (x : A) × (o ≡ Some x)
some_is None e = absurd cc
some_is (Some x) e = (x, refl)

-- EXPRESSIONS

tree_some : (s : Seen) → is_value s ≡ true → is_some (tree_of s) ≡ true
tree_some seen.Faulty e = absurd cc
tree_some (seen.Value k) e = refl
tree_some (seen.Class name) e = absurd cc
tree_some (seen.Text text) e = absurd cc

operand_some : (c : Scope) (x : Expr) → faults_of (operand c (waiting x)).visits ≡ [] → is_some (tree_of (operand c (waiting x)).seen) ≡ true
operand_some c x e = tree_some _ (operand_is _ (sound c x role.Operand e))

alone_some : (c : Scope) (x : Expr) → faults_of (part c x role.Alone).visits ≡ [] → is_some (tree_of (part c x role.Alone).seen) ≡ true
alone_some c x e = tree_some _ (alone_is _ (sound c x role.Alone e))

option_some : (c : Scope) (x : Option Expr) → faults_of (visits_option c (option_map waiting x)) ≡ [] → is_some (tree_option (seen_option c (option_map waiting x))) ≡ true
option_some c None e = refl
option_some c (Some x) e = some_map Some _ (operand_some c x e)

-- STATEMENTS

settle : {A : Type 0} (fs : List TypeFault) (o : Option A) → fs ≡ [] → is_some o ≡ true → is_some (elim fs as (λ x. Option A) [ [] ↦ o | y ∷ ys ↦ None ]) ≡ true
settle [] o e h = h
settle (f ∷ fs) o e h = absurd cc

whole : (c : Scope) (p : Place) (step : Step) → (faults_of (visits_inside c step) ≡ [] → is_some (resolved c step) ≡ true) →
    faults_of (flow_of step p c).visits ≡ [] → is_some (flow_of step p c).made ≡ true
whole c p step h e =
    let v : Visit = record { place = p; node = AtStmt c (node_in c step) } in
    let own : own_faults p (AtStmt c (node_in c step)) ≡ [] = own_sound v (back_sound (visits_inside c step) (v ∷ []) e) in
    settle (own_faults p (AtStmt c (node_in c step))) (option_map (statement_at p) (resolved c step)) own
    (some_map (statement_at p) (resolved c step) (h (front_sound (visits_inside c step) (v ∷ []) e)))

abbrev flows : List Sure → List (Scope → Flow)
flows xs = map flow (map (λ (x : Sure). x.0) xs)

along : (xs : List Sure) (done : List TypedStmt) (c : Scope) → faults_of (visits_along (flows xs) c) ≡ [] → is_some (made_along (Some done) (flows xs) c) ≡ true
along [] done c e = refl
along (x ∷ xs) done c e =
    let t = some_is (flow x.0 c).made (x.1 c (front_sound (flow x.0 c).visits _ e)) in
    subst (λ (o : Option TypedStmt). is_some (made_along (pushed (Some done) o) (flows xs) (flow x.0 c).after) ≡ true) (sym t.1)
    (along xs (done ++ t.0 ∷ []) (flow x.0 c).after (back_sound (flow x.0 c).visits _ e))

abbrev step : StmtKind-F (Place → Scope → Flow) (Scope → Flow) → Place → Scope → Flow
step kind = flow_of (step_of kind)

abbrev kind_flow : StmtKind → Place → Scope → Flow
kind_flow = fold-StmtKind (Place → Scope → Flow) (Scope → Flow) step (λ x. x.kind x.place)

abbrev SureKind : Type 0
SureKind = (k : StmtKind) × ((p : Place) → Makes (kind_flow k p))

-- a statement that may be left out
made_some : (x : Option Sure) (c : Scope) → faults_of (flow_visits (option_map flow (option_map (λ (x : Sure). x.0) x)) c) ≡ [] →
    is_some (made_option (option_map flow (option_map (λ (x : Sure). x.0) x)) c) ≡ true
made_some None c e = refl
made_some (Some x) c e = some_map Some _ (x.1 c e)

abbrev maybe : Option Sure → Option (Scope → Flow)
maybe x = option_map flow (option_map (λ (x : Sure). x.0) x)

-- a loop with `for`
for_some : (init : Option Sure) (test : Option Expr) (change : Option Sure) (body : Sure) (c : Scope) →
    faults_of (visits_inside c (For (maybe init) (option_map waiting test) (maybe change) (flow body.0))) ≡ [] →
    is_some (resolved c (For (maybe init) (option_map waiting test) (maybe change) (flow body.0))) ≡ true
for_some init test change body c e =
    let d : Scope = after_init (maybe init) c in
    let e2 = back_sound (flow_visits (maybe init) c) (visits_option d (option_map waiting test) ++ (flow_visits (maybe change) d ++ (flow body.0 (in_loop d)).visits)) e in
    let e3 = back_sound (visits_option d (option_map waiting test)) (flow_visits (maybe change) d ++ (flow body.0 (in_loop d)).visits) e2 in
    some_then _ (made_option (maybe init) c) (made_some init c (front_sound (flow_visits (maybe init) c) _ e))
    (λ i. some_then _ (tree_option (seen_option d (option_map waiting test))) (option_some d test (front_sound (visits_option d (option_map waiting test)) _ e2))
    (λ t. some_then _ (made_option (maybe change) d) (made_some change d (front_sound (flow_visits (maybe change) d) _ e3))
    (λ ch. some_map _ (flow body.0 (in_loop d)).made (body.1 (in_loop d) (back_sound (flow_visits (maybe change) d) _ e3)))))

-- an `if`
if_some : (test : Expr) (first : Sure) (second : Option Sure) (c : Scope) →
    faults_of (visits_inside c (If (waiting test) (flow first.0) (maybe second))) ≡ [] → is_some (resolved c (If (waiting test) (flow first.0) (maybe second))) ≡ true
if_some test first second c e =
    let e2 = back_sound (operand c (waiting test)).visits ((flow first.0 c).visits ++ flow_visits (maybe second) c) e in
    some_then _ (tree_of (operand c (waiting test)).seen) (operand_some c test (front_sound (operand c (waiting test)).visits _ e))
    (λ t. some_then _ (flow first.0 c).made (first.1 c (front_sound (flow first.0 c).visits _ e2))
    (λ a. some_map _ (made_option (maybe second) c) (made_some second c (back_sound (flow first.0 c).visits _ e2))))

-- one statement, where those in it have their trees
layer : (y : StmtKind-F SureKind Sure) (p : Place) →
    Makes (step (map-StmtKind StmtKind Stmt (Place → Scope → Flow) (Scope → Flow) kind_flow flow (map-StmtKind SureKind Sure StmtKind Stmt (λ k. k.0) (λ x. x.0) y)) p)
layer (s.Block all) p c h = whole c p (Block (flows all)) (λ e. some_map made.Block _ (along all [] c e)) h
layer s.Empty p c h = whole c p Empty (λ e. refl) h
layer (s.Local t name value) p c h = whole c p (Local t name (option_map waiting value)) (λ e. some_map _ (tree_option (seen_option c (option_map waiting value))) (option_some c value e)) h
layer (s.If test first None) p c h = whole c p (If (waiting test) (flow first.0) (maybe None)) (λ e. if_some test first None c e) h
layer (s.If test first (Some second)) p c h = whole c p (If (waiting test) (flow first.0) (maybe (Some second))) (λ e. if_some test first (Some second) c e) h
layer (s.While test body) p c h = whole c p (While (waiting test) (flow body.0))
    (λ e. some_then _ (tree_of (operand c (waiting test)).seen) (operand_some c test (front_sound (operand c (waiting test)).visits _ e))
    (λ t. some_map _ (flow body.0 (in_loop c)).made (body.1 (in_loop c) (back_sound (operand c (waiting test)).visits _ e)))) h
layer (s.For None test None body) p c h = whole c p (For (maybe None) (option_map waiting test) (maybe None) (flow body.0)) (λ e. for_some None test None body c e) h
layer (s.For None test (Some change) body) p c h = whole c p (For (maybe None) (option_map waiting test) (maybe (Some change)) (flow body.0)) (λ e. for_some None test (Some change) body c e) h
layer (s.For (Some init) test None body) p c h = whole c p (For (maybe (Some init)) (option_map waiting test) (maybe None) (flow body.0)) (λ e. for_some (Some init) test None body c e) h
layer (s.For (Some init) test (Some change) body) p c h = whole c p (For (maybe (Some init)) (option_map waiting test) (maybe (Some change)) (flow body.0)) (λ e. for_some (Some init) test (Some change) body c e) h
layer s.Break p c h = whole c p (Jump true) (λ e. refl) h
layer s.Continue p c h = whole c p (Jump false) (λ e. refl) h
layer (s.Return value) p c h = whole c p (Return (option_map waiting value)) (λ e. some_map made.Return (tree_option (seen_option c (option_map waiting value))) (option_some c value e)) h
layer (s.Assign left n right) p c h = whole c p (Assign (waiting left) n (waiting right))
    (λ e. some_then _ (tree_of (operand c (waiting left)).seen) (operand_some c left (front_sound (operand c (waiting left)).visits _ e))
    (λ l. some_map _ (tree_of (operand c (waiting right)).seen) (operand_some c right (back_sound (operand c (waiting left)).visits _ e)))) h
layer (s.Bump left up) p c h = whole c p (Bump (waiting left) up) (λ e. some_map _ (tree_of (operand c (waiting left)).seen) (operand_some c left e)) h
layer (s.Run x) p c h = whole c p (Run (waiting x)) (λ e. some_map made.Run (tree_of (part c x role.Alone).seen) (alone_some c x e)) h

-- each statement
pub makes : (x : Stmt) → Makes (flow x)
makes = ind-Stmt (λ k. (p : Place) → Makes (kind_flow k p)) (λ x. Makes (flow x))
    (λ x y is. subst (λ (z : Place → Scope → Flow). (p : Place) → Makes (z p)) (sym (fold-roll-StmtKind (Place → Scope → Flow) (Scope → Flow) step (λ x. x.kind x.place) x))
    (subst (λ (z : StmtKind-F StmtKind Stmt). (p : Place) → Makes (step (map-StmtKind StmtKind Stmt (Place → Scope → Flow) (Scope → Flow) kind_flow flow z) p)) is (layer y)))
    (λ x y is. subst Makes (sym (fold-roll-Stmt (Place → Scope → Flow) (Scope → Flow) step (λ x. x.kind x.place) x))
    (subst (λ (z : s.Stmt-F StmtKind Stmt). Makes (kind_flow z.kind z.place)) is (y.kind.1 y.place)))

-- several statements
pub block_makes : (xs : List Stmt) (done : List TypedStmt) (c : Scope) → faults_of (visits_along (map flow xs) c) ≡ [] → is_some (made_along (Some done) (map flow xs) c) ≡ true
block_makes [] done c e = refl
block_makes (x ∷ xs) done c e =
    let t = some_is (flow x c).made (makes x c (front_sound (flow x c).visits _ e)) in
    subst (λ (o : Option TypedStmt). is_some (made_along (pushed (Some done) o) (map flow xs) (flow x c).after) ≡ true) (sym t.1)
    (block_makes xs (done ++ t.0 ∷ []) (flow x c).after (back_sound (flow x c).visits _ e))
