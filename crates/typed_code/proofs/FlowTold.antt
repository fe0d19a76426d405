-- A statement without a fault has an encodable tree, where few enough variables are ever in scope and methods have few parameters.
use Rattle.std.proofs.Common.{◌≡◌, ℕ, ◌+◌, ◌≤◌, Bool, true, false, List, [], ◌∷◌, ◌++◌, map, Option, Some, None, refl, sym, ap, ◌∙◌, subst, arith, length-append}
use Rattle.std.specs.Prelude.{◌&&◌, max}
use Rattle.std.specs.List.{list_all}
use Rattle.std.specs.Option.{option_map}
use Rattle.std.proofs.lemmas.Bool.{lt-ltb}
use Rattle.jp_pred.specs.declared.ty.Ty.{Ty}
use Rattle.jp_pred.specs.Names.{Word}
use Rattle.jp_ast.specs.declared.token.Place.{Place}
use Rattle.jp_ast.specs.declared.expr.Expr.{Expr}
use Rattle.jp_ast.specs.declared.stmt.Stmt.{Stmt}
use Rattle.jp_ast.specs.declared.stmt.StmtKind.{StmtKind, StmtKind-F}
use Rattle.jp_ast.specs.declared.stmt.StmtKind.TheOpen as s
use Rattle.jp_ast.specs.declared.stmt.StmtKind.TheFolds.{ind-Stmt, fold-StmtKind, fold-roll-Stmt, fold-roll-StmtKind, map-StmtKind}
use Rattle.jp_meaning.specs.declared.expr.TypedExpr.{TypedExpr}
use Rattle.jp_meaning.specs.declared.stmt.TypedStmt.{TypedStmt}
use Rattle.jp_meaning.specs.declared.stmt.TypedStmtKind.{TypedStmtKind}
use Rattle.jp_meaning.specs.declared.stmt.TypedStmtKind.TheVariants as made
use Rattle.type_rules.specs.declared.fault.TypeFault.{TypeFault}
use Rattle.type_rules.specs.declared.scope.Scope.{Scope}
use Rattle.type_rules.specs.declared.seen.Role.TheVariants as role
use Rattle.type_rules.specs.declared.seen.Seen.{Seen}
use Rattle.type_rules.specs.declared.seen.Seen.TheVariants as seen
use Rattle.type_rules.specs.Names.{receiver_slots}
use Rattle.type_rules.specs.Nodes.{AtStmt}
use Rattle.type_rules.specs.Table.{own_faults}
use Rattle.type_rules.specs.Expressions.{part}
use Rattle.type_rules.specs.Statements.{Flow, waiting, Step, Block, Empty, Local, If, While, For, Jump, Return, Assign, Bump, Run, step_of, in_loop, count, after_init, operand, seen_option, flow_most, most_along, pushed, made_along, node_in, scope_behind, most_in, tree_of, tree_option, made_option, resolved, statement_at, flow_of, flow}
use Rattle.code_fits.specs.Encodable.{is_in_reach, is_encodable, or_so, stmt_is_encodable}
use Rattle.typed_code.proofs.Making.{OnMade, so_then, so_map}
use Rattle.typed_code.proofs.EncodableForms.{ok_block, ok_empty, ok_local, ok_if, ok_while, ok_for, ok_break, ok_continue, ok_return, ok_assign, ok_bump, ok_run}
use Rattle.typed_code.proofs.SeenTold.{and_so, of_both, AreFew, Told, IsRoomy, part_told}

abbrev pub ok : TypedStmt → Bool
ok = stmt_is_encodable

-- EXPRESSIONS

abbrev Can : TypedExpr → Type 0
Can e = is_encodable e ≡ true

tree_made : (x : Seen) → Told x → OnMade Can (tree_of x)
tree_made seen.Faulty h = tt
tree_made (seen.Value k) h = h
tree_made (seen.Class name) h = tt
tree_made (seen.Text text) h = tt

pub operand_made : (c : Scope) → AreFew c.heads → IsRoomy c → (x : Expr) → OnMade Can (tree_of (operand c (waiting x)).seen)
operand_made c few room x = tree_made (operand c (waiting x)).seen (part_told c few room x role.Operand)

alone_made : (c : Scope) → AreFew c.heads → IsRoomy c → (x : Expr) → OnMade Can (tree_of (part c x role.Alone).seen)
alone_made c few room x = tree_made (part c x role.Alone).seen (part_told c few room x role.Alone)

abbrev MayTell : Option TypedExpr → Type 0
MayTell v = or_so is_encodable v ≡ true

option_made : (c : Scope) → AreFew c.heads → IsRoomy c → (x : Option Expr) → OnMade MayTell (tree_option (seen_option c (option_map waiting x)))
option_made c few room None = refl
option_made c few room (Some x) = so_map Some MayTell Can (tree_of (operand c (waiting x)).seen) (operand_made c few room x) (λ e h. h)

-- STATEMENTS

abbrev Good : TypedStmt → Type 0
Good t = ok t ≡ true

abbrev MayBe : Option TypedStmt → Type 0
MayBe o = or_so (λ b. b) (option_map ok o) ≡ true

-- a statement in a scope: the heads and the receiver stay, the variables grow up to the most, and where these can be told its
-- tree is encodable
pub record ToldFlow (c : Scope) (f : Flow) : Type 0 where
  pub heads : f.after.heads ≡ c.heads
  pub static : f.after.is_static ≡ c.is_static
  pub before : count c ≤ f.most
  pub behind : count f.after ≤ f.most
  pub told : AreFew c.heads → receiver_slots c.is_static + f.most ≤ 256 → OnMade Good f.made

abbrev pub ToldFlows : (Scope → Flow) → Type 0
ToldFlows f = (c : Scope) → ToldFlow c (f c)

settle : (P : TypedStmt → Type 0) (fs : List TypeFault) (o : Option TypedStmt) → OnMade P o → OnMade P (elim fs as (λ x. Option TypedStmt) [ [] ↦ o | y ∷ ys ↦ None ])
settle P [] o h = h
settle P (y ∷ ys) o h = tt

abbrev At : Place → TypedStmtKind → Type 0
At place k = Good (statement_at place k)

whole : (c : Scope) (place : Place) (step : Step) → (scope_behind c step).heads ≡ c.heads → (scope_behind c step).is_static ≡ c.is_static → count c ≤ most_in c step → count (scope_behind c step) ≤ most_in c step →
    (AreFew c.heads → receiver_slots c.is_static + most_in c step ≤ 256 → OnMade (At place) (resolved c step)) → ToldFlow c (flow_of step place c)
whole c place step heads static before behind h = record {
  heads = heads;
  static = static;
  before = before;
  behind = behind;
  told = λ few room. settle Good (own_faults place (AtStmt c (node_in c step))) (option_map (statement_at place) (resolved c step)) (so_map (statement_at place) Good (At place) (resolved c step) (h few room) (λ k q. q));
}

abbrev ToldStmt : Type 0
ToldStmt = (x : Stmt) × ToldFlows (flow x)

abbrev flows : List ToldStmt → List (Scope → Flow)
flows xs = map flow (map (λ (x : ToldStmt). x.0) xs)

abbrev maybe : Option ToldStmt → Option (Scope → Flow)
maybe x = option_map flow (option_map (λ (x : ToldStmt). x.0) x)

pub most_grows : (most : ℕ) (fs : List (Scope → Flow)) (c : Scope) → most ≤ most_along most fs c
most_grows most [] c = omega arith
most_grows most (f ∷ fs) c = let h = most_grows (max most (f c).most) fs (f c).after in omega (arith, h)

abbrev pub AllGood : List TypedStmt → Type 0
AllGood ts = list_all ok ts ≡ true

nothing_more : (fs : List (Scope → Flow)) (c : Scope) (P : List TypedStmt → Type 0) → OnMade P (made_along None fs c)
nothing_more [] c P = tt
nothing_more (f ∷ fs) c P = nothing_more fs (f c).after P

one_more : (done : List TypedStmt) (t : TypedStmt) → AllGood done → Good t → AllGood (done ++ t ∷ [])
one_more [] t h k = and_so (ok t) true k refl
one_more (d ∷ ds) t h k = let g = of_both (ok d) (list_all ok ds) h in and_so (ok d) (list_all ok (ds ++ t ∷ [])) g.0 (one_more ds t g.1 k)

along : (xs : List ToldStmt) (done : List TypedStmt) (most : ℕ) (c : Scope) → AreFew c.heads → receiver_slots c.is_static + most_along most (flows xs) c ≤ 256 → AllGood done → OnMade AllGood (made_along (Some done) (flows xs) c)
along [] done most c few room h = h
along (x ∷ xs) done most c few room h =
    let f = x.1 c in
    let first = (flow x.0 c).most in
    let grows = most_grows (max most first) (flows xs) (flow x.0 c).after in
    let same : receiver_slots (flow x.0 c).after.is_static ≡ receiver_slots c.is_static = ap receiver_slots f.static in
    by_made (flow x.0 c).made (f.told few (omega (arith, grows, room)))
    (λ t k. along xs (done ++ t ∷ []) (max most first) (flow x.0 c).after (subst AreFew (sym f.heads) few) (omega (arith, same, room)) (one_more done t h k)) where
      by_made : (o : Option TypedStmt) → OnMade Good o → ((t : TypedStmt) → Good t → OnMade AllGood (made_along (Some (done ++ t ∷ [])) (flows xs) (flow x.0 c).after)) →
          OnMade AllGood (made_along (pushed (Some done) o) (flows xs) (flow x.0 c).after)
      by_made None m later = nothing_more (flows xs) (flow x.0 c).after AllGood
      by_made (Some t) m later = later t m

map_all : (ts : List TypedStmt) → AllGood ts → list_all (λ b. b) (map ok ts) ≡ true
map_all [] h = refl
map_all (t ∷ ts) h = let g = of_both (ok t) (list_all ok ts) h in and_so (ok t) (list_all (λ b. b) (map ok ts)) g.0 (map_all ts g.1)

maybe_made : (x : Option ToldStmt) (c : Scope) → AreFew c.heads → receiver_slots c.is_static + flow_most (maybe x) c ≤ 256 → OnMade MayBe (made_option (maybe x) c)
maybe_made None c few room = refl
maybe_made (Some x) c few room = so_map Some MayBe Good (flow x.0 c).made ((x.1 c).told few room) (λ t h. h)

maybe_before : (x : Option ToldStmt) (c : Scope) → count c ≤ flow_most (maybe x) c
maybe_before None c = omega arith
maybe_before (Some x) c = (x.1 c).before

-- the scope behind the first statement of a loop
record BehindInit (x : Option ToldStmt) (c : Scope) : Type 0 where
  heads : (after_init (maybe x) c).heads ≡ c.heads
  static : (after_init (maybe x) c).is_static ≡ c.is_static
  behind : count (after_init (maybe x) c) ≤ flow_most (maybe x) c

behind_init : (x : Option ToldStmt) (c : Scope) → BehindInit x c
behind_init None c = record { heads = refl; static = refl; behind = omega arith }
behind_init (Some x) c = let f = x.1 c in record { heads = f.heads; static = f.static; behind = f.behind }

-- a scope with few enough variables
roomy : (c : Scope) (most : ℕ) → count c ≤ most → receiver_slots c.is_static + most ≤ 256 → IsRoomy c
roomy c most h room = omega (arith, h, room)

if_told : (test : Expr) (first : ToldStmt) (second : Option ToldStmt) (c : Scope) (place : Place) → ToldFlow c (flow_of (If (waiting test) (flow first.0) (maybe second)) place c)
if_told test first second c place =
    let f = first.1 c in
    let most = most_in c (If (waiting test) (flow first.0) (maybe second)) in
    let before : count c ≤ most = let h = f.before in omega (arith, h) in
    whole c place (If (waiting test) (flow first.0) (maybe second)) refl refl before before (λ few room.
    so_then _ (At place) Can (tree_of (operand c (waiting test)).seen) (operand_made c few (roomy c most before room) test) (λ t ht.
    so_then _ (At place) Good (flow first.0 c).made (f.told few (omega (arith, room))) (λ a ha.
    so_map (λ b. made.If t a b) (At place) MayBe (made_option (maybe second) c) (maybe_made second c few (omega (arith, room))) (λ b hb.
    ok_if place t a b ∙ and_so (is_encodable t) (ok a && or_so (λ b. b) (option_map ok b)) ht (and_so (ok a) (or_so (λ b. b) (option_map ok b)) ha hb)))))

for_told : (init : Option ToldStmt) (test : Option Expr) (change : Option ToldStmt) (body : ToldStmt) (c : Scope) (place : Place) →
    ToldFlow c (flow_of (For (maybe init) (option_map waiting test) (maybe change) (flow body.0)) place c)
for_told init test change body c place =
    let d = after_init (maybe init) c in
    let i = behind_init init c in
    let b = body.1 (in_loop d) in
    let step = For (maybe init) (option_map waiting test) (maybe change) (flow body.0) in
    let most = most_in c step in
    let before : count c ≤ most = let h = maybe_before init c in omega (arith, h) in
    let same : receiver_slots d.is_static ≡ receiver_slots c.is_static = ap receiver_slots i.static in
    whole c place step refl refl before before (λ few room.
    let few_behind = subst AreFew (sym i.heads) few in
    let room_behind : receiver_slots d.is_static + most ≤ 256 = omega (arith, same, room) in
    let inside : count d ≤ most = let h = i.behind in omega (arith, h) in
    so_then _ (At place) MayBe (made_option (maybe init) c) (maybe_made init c few (omega (arith, room))) (λ a ha.
    so_then _ (At place) MayTell (tree_option (seen_option d (option_map waiting test))) (option_made d few_behind (roomy d most inside room_behind) test) (λ t ht.
    so_then _ (At place) MayBe (made_option (maybe change) d) (maybe_made change d few_behind (omega (arith, room_behind))) (λ ch hc.
    so_map (λ b. made.For a t ch b) (At place) Good (flow body.0 (in_loop d)).made (b.told few_behind (omega (arith, room_behind))) (λ e he.
    ok_for place a t ch e
    ∙ and_so (or_so (λ b. b) (option_map ok a)) (or_so is_encodable t && (or_so (λ b. b) (option_map ok ch) && ok e)) ha
    (and_so (or_so is_encodable t) (or_so (λ b. b) (option_map ok ch) && ok e) ht (and_so (or_so (λ b. b) (option_map ok ch)) (ok e) hc he)))))))

block_told : (all : List ToldStmt) (c : Scope) (place : Place) → ToldFlow c (flow_of (Block (flows all)) place c)
block_told all c place =
    let grows = most_grows (count c) (flows all) c in
    whole c place (Block (flows all)) refl refl grows grows (λ few room.
    so_map made.Block (At place) AllGood (made_along (Some []) (flows all) c) (along all [] (count c) c few room refl) (λ ts h. ok_block place ts ∙ map_all ts h))

local_told : (t : Ty) (name : Word) (value : Option Expr) (c : Scope) (place : Place) → ToldFlow c (flow_of (Local t name (option_map waiting value)) place c)
local_told t name value c place =
    let slot = receiver_slots c.is_static + count c in
    let size = length-append c.variables (record { name = name; ty = t } ∷ []) in
    whole c place (Local t name (option_map waiting value)) refl refl (omega arith) (omega (arith, size)) (λ few room.
    so_map (λ v. made.Local slot t v) (At place) MayTell (tree_option (seen_option c (option_map waiting value))) (option_made c few (omega (arith, room)) value) (λ v h.
    ok_local place slot t v ∙ and_so (is_in_reach slot) (or_so is_encodable v) (lt-ltb slot 256 (omega (arith, room))) h))

abbrev step : StmtKind-F (Place → Scope → Flow) (Scope → Flow) → Place → Scope → Flow
step kind = flow_of (step_of kind)

abbrev kind_flow : StmtKind → Place → Scope → Flow
kind_flow = fold-StmtKind (Place → Scope → Flow) (Scope → Flow) step (λ x. x.kind x.place)

abbrev ToldKind : Type 0
ToldKind = (k : StmtKind) × ((place : Place) → ToldFlows (kind_flow k place))

-- a statement that leaves the scope as it is, and has no parts that are statements
simple : (c : Scope) (place : Place) (st : Step) → scope_behind c st ≡ c → most_in c st ≡ count c → (AreFew c.heads → IsRoomy c → OnMade (At place) (resolved c st)) → ToldFlow c (flow_of st place c)
simple c place st same most h =
    let behind : count (scope_behind c st) ≡ count c = ap count same in
    whole c place st (ap (λ (x : Scope). x.heads) same) (ap (λ (x : Scope). x.is_static) same) (omega (arith, most)) (omega (arith, most, behind)) (λ few room. h few (omega (arith, most, room)))

layer : (y : StmtKind-F ToldKind ToldStmt) (place : Place) →
    ToldFlows (step (map-StmtKind StmtKind Stmt (Place → Scope → Flow) (Scope → Flow) kind_flow flow (map-StmtKind ToldKind ToldStmt StmtKind Stmt (λ k. k.0) (λ x. x.0) y)) place)
layer (s.Block all) place c = block_told all c place
layer s.Empty place c = simple c place Empty refl refl (λ few room. ok_empty place)
layer (s.Local t name value) place c = local_told t name value c place
layer (s.If test first None) place c = if_told test first None c place
layer (s.If test first (Some second)) place c = if_told test first (Some second) c place
layer (s.While test body) place c =
    let b = body.1 (in_loop c) in
    whole c place (While (waiting test) (flow body.0)) refl refl b.before b.before (λ few room.
    so_then _ (At place) Can (tree_of (operand c (waiting test)).seen) (operand_made c few (roomy c (flow body.0 (in_loop c)).most b.before room) test) (λ t ht.
    so_map (λ b. made.While t b) (At place) Good (flow body.0 (in_loop c)).made (b.told few room) (λ e he. ok_while place t e ∙ and_so (is_encodable t) (ok e) ht he)))
layer (s.For None test None body) place c = for_told None test None body c place
layer (s.For None test (Some change) body) place c = for_told None test (Some change) body c place
layer (s.For (Some init) test None body) place c = for_told (Some init) test None body c place
layer (s.For (Some init) test (Some change) body) place c = for_told (Some init) test (Some change) body c place
layer s.Break place c = simple c place (Jump true) refl refl (λ few room. ok_break place)
layer s.Continue place c = simple c place (Jump false) refl refl (λ few room. ok_continue place)
layer (s.Return value) place c = simple c place (Return (option_map waiting value)) refl refl (λ few room.
    so_map made.Return (At place) MayTell (tree_option (seen_option c (option_map waiting value))) (option_made c few room value) (λ v h. ok_return place v ∙ h))
layer (s.Assign left n right) place c = simple c place (Assign (waiting left) n (waiting right)) refl refl (λ few room.
    so_then _ (At place) Can (tree_of (operand c (waiting left)).seen) (operand_made c few room left) (λ l hl.
    so_map (λ r. made.Assign l n r) (At place) Can (tree_of (operand c (waiting right)).seen) (operand_made c few room right) (λ r hr. ok_assign place l n r ∙ and_so (is_encodable l) (is_encodable r) hl hr)))
layer (s.Bump left up) place c = simple c place (Bump (waiting left) up) refl refl (λ few room.
    so_map (λ l. made.Bump l up) (At place) Can (tree_of (operand c (waiting left)).seen) (operand_made c few room left) (λ l hl. ok_bump place l up ∙ hl))
layer (s.Run x) place c = simple c place (Run (waiting x)) refl refl (λ few room.
    so_map made.Run (At place) Can (tree_of (part c x role.Alone).seen) (alone_made c few room x) (λ e h. ok_run place e ∙ h))

flow_told : (x : Stmt) → ToldFlows (flow x)
flow_told = ind-Stmt (λ k. (place : Place) → ToldFlows (kind_flow k place)) (λ x. ToldFlows (flow x))
    (λ x y is. subst (λ (z : Place → Scope → Flow). (place : Place) → ToldFlows (z place)) (sym (fold-roll-StmtKind (Place → Scope → Flow) (Scope → Flow) step (λ x. x.kind x.place) x))
    (subst (λ (z : StmtKind-F StmtKind Stmt). (place : Place) → ToldFlows (step (map-StmtKind StmtKind Stmt (Place → Scope → Flow) (Scope → Flow) kind_flow flow z) place)) is (layer y)))
    (λ x y is. subst ToldFlows (sym (fold-roll-Stmt (Place → Scope → Flow) (Scope → Flow) step (λ x. x.kind x.place) x))
    (subst (λ (z : s.Stmt-F StmtKind Stmt). ToldFlows (kind_flow z.kind z.place)) is (y.kind.1 y.place)))

told_all : List Stmt → List ToldStmt
told_all [] = []
told_all (x ∷ xs) = (x, flow_told x) ∷ told_all xs

flows_all : (xs : List Stmt) → flows (told_all xs) ≡ map flow xs
unfolding told_all
flows_all [] = refl
flows_all (x ∷ xs) = ap (λ (fs : List (Scope → Flow)). flow x ∷ fs) (flows_all xs)

-- the statements of a block
pub block_made : (xs : List Stmt) (c : Scope) → AreFew c.heads → receiver_slots c.is_static + most_along (count c) (map flow xs) c ≤ 256 → OnMade AllGood (made_along (Some []) (map flow xs) c)
block_made xs c few room = subst (λ (fs : List (Scope → Flow)). receiver_slots c.is_static + most_along (count c) fs c ≤ 256 → OnMade AllGood (made_along (Some []) fs c)) (flows_all xs) (λ room. along (told_all xs) [] (count c) c few room refl) room
