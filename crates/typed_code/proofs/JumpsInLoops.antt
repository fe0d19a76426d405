-- In a unit without a fault each `break` and `continue` stands in a loop.
use Rattle.std.proofs.Common.{◌≡◌, ◌+◌, Bool, true, false, List, [], ◌∷◌, ◌++◌, map, Option, Some, None, refl, sym, ap, ◌∙◌, subst, rules}
use Rattle.std.specs.Prelude.{not, ◌&&◌, ◌||◌, cond, if◌then◌else◌}
use Rattle.std.specs.List.{list_any, list_all}
use Rattle.std.specs.Option.{option_map, option_map_or}
use Rattle.std.proofs.lemmas.Bool.{false≢true}
use Rattle.jp_pred.specs.declared.ty.Ty.{Ty}
use Rattle.iface_codec.specs.declared.iface.Iface.{Iface}
use Rattle.jp_ast.specs.declared.token.Place.{Place}
use Rattle.jp_ast.specs.declared.expr.Expr.{Expr}
use Rattle.jp_ast.specs.declared.stmt.Stmt.{Stmt}
use Rattle.jp_ast.specs.declared.stmt.StmtKind.{StmtKind, StmtKind-F}
use Rattle.jp_ast.specs.declared.stmt.StmtKind.TheOpen as s
use Rattle.jp_ast.specs.declared.stmt.StmtKind.TheFolds.{ind-Stmt, fold-StmtKind, fold-roll-Stmt, fold-roll-StmtKind, map-StmtKind}
use Rattle.jp_ast.specs.declared.decl.Decl.{Decl}
use Rattle.jp_ast.specs.declared.decl.Member.{Member}
use Rattle.jp_meaning.specs.declared.expr.TypedExpr.{TypedExpr}
use Rattle.jp_meaning.specs.declared.stmt.TypedStmt.{TypedStmt, the_lemmas}
use Rattle.jp_meaning.specs.declared.stmt.TypedStmtKind.{TypedStmtKind}
use Rattle.jp_meaning.specs.declared.stmt.TypedStmtKind.TheVariants as made
use Rattle.jp_meaning.specs.declared.unit.TypedMember.{TypedMember}
use Rattle.jp_meaning.specs.declared.unit.TypedClass.{TypedClass}
use Rattle.jp_meaning.specs.declared.unit.TypedUnit.{TypedUnit}
use Rattle.type_rules.specs.declared.fault.TypeFault.{TypeFault}
use Rattle.type_rules.specs.declared.scope.Scope.{Scope}
use Rattle.type_rules.specs.declared.seen.Role.TheVariants as role
use Rattle.type_rules.specs.Names.{receiver_slots}
use Rattle.type_rules.specs.Nodes.{AtStmt, Jumps}
use Rattle.type_rules.specs.Table.{own_faults}
use Rattle.type_rules.specs.Expressions.{part}
use Rattle.type_rules.specs.Statements.{Flow, waiting, Step, Block, Empty, Local, If, While, For, Jump, Return, Assign, Bump, Run, step_of, in_loop, count, after_init, operand, seen_option, pushed, made_along, node_in, scope_behind, tree_of, tree_option, made_option, resolved, statement_at, flow_of, flow}
use Rattle.type_rules.specs.Heads.{heads_of}
use Rattle.type_rules.specs.RulesOfDeclarations.{has_no_constructor}
use Rattle.type_rules.specs.Units.{Opened, OpenDecl, Seat, opened, open_decl, block_part, body_scope, super_parts, made_guard, guard_of, member_from, made_member, seats, seats_of, default_constructor, with_default, made_members, made_class, made_classes}
use Rattle.type_rules.specs.Expressions.{seen_all, arguments}
use Rattle.type_rules.proofs.Soundness.{first_kept, not_false}
use Rattle.code_fits.specs.Encodable.{or_not, jumps_out, stays_in}
use Rattle.typed_code.specs.Laws.{TypedJumpsStandInLoops}
use Rattle.typed_code.proofs.Making.{OnMade, any_then, so_then, any_map, so_map}

-- the jumps of each form
jumps_block : (place : Place) (ts : List TypedStmt) → jumps_out (record { place = place; kind = made.Block ts }) ≡ list_any (λ b. b) (map jumps_out ts)
jumps_block place ts = search (rules, the_lemmas)

jumps_empty : (place : Place) → jumps_out (record { place = place; kind = made.Empty }) ≡ false
jumps_empty place = search (rules, the_lemmas)

jumps_local : (place : Place) (slot : _) (t : Ty) (value : Option TypedExpr) → jumps_out (record { place = place; kind = made.Local slot t value }) ≡ false
jumps_local place slot t value = search (rules, the_lemmas)

jumps_if : (place : Place) (test : TypedExpr) (first : TypedStmt) (second : Option TypedStmt) → jumps_out (record { place = place; kind = made.If test first second }) ≡ (jumps_out first || or_not (option_map jumps_out second))
jumps_if place test first second = search (rules, the_lemmas)

jumps_while : (place : Place) (test : TypedExpr) (body : TypedStmt) → jumps_out (record { place = place; kind = made.While test body }) ≡ false
jumps_while place test body = search (rules, the_lemmas)

jumps_for : (place : Place) (init : Option TypedStmt) (test : Option TypedExpr) (change : Option TypedStmt) (body : TypedStmt) → jumps_out (record { place = place; kind = made.For init test change body }) ≡ (or_not (option_map jumps_out init) || or_not (option_map jumps_out change))
jumps_for place init test change body = search (rules, the_lemmas)

jumps_return : (place : Place) (value : Option TypedExpr) → jumps_out (record { place = place; kind = made.Return value }) ≡ false
jumps_return place value = search (rules, the_lemmas)

jumps_assign : (place : Place) (left : TypedExpr) (sign : _) (right : TypedExpr) → jumps_out (record { place = place; kind = made.Assign left sign right }) ≡ false
jumps_assign place left sign right = search (rules, the_lemmas)

jumps_bump : (place : Place) (left : TypedExpr) (up : Bool) → jumps_out (record { place = place; kind = made.Bump left up }) ≡ false
jumps_bump place left up = search (rules, the_lemmas)

jumps_run : (place : Place) (value : TypedExpr) → jumps_out (record { place = place; kind = made.Run value }) ≡ false
jumps_run place value = search (rules, the_lemmas)

-- where one is, the other is
abbrev pub Under : Bool → Bool → Type 0
Under l x = x ≡ true → l ≡ true

never : (l x : Bool) → x ≡ false → Under l x
never l x f e = absurd (false≢true (sym f ∙ e))

carried : (l x y : Bool) → x ≡ y → Under l y → Under l x
carried l x y q h e = h (sym q ∙ e)

under_or : (l x y : Bool) → Under l x → Under l y → Under l (x || y)
under_or l true y h k e = h refl
under_or l false y h k e = k e

left_under : (l x y : Bool) → Under l (x || y) → Under l x
left_under l true y h e = h refl
left_under l false y h e = absurd (false≢true e)

right_under : (l x y : Bool) → Under l (x || y) → Under l y
right_under l true y h e = h refl
right_under l false y h e = h e

any_mapped : (ts : List TypedStmt) → list_any (λ b. b) (map jumps_out ts) ≡ list_any jumps_out ts
any_mapped [] = refl
any_mapped (t ∷ ts) = ap (λ b. jumps_out t || b) (any_mapped ts)

module _ (l : Bool) where
  -- a statement jumps out only in a loop, and the scope behind it is in one where the scope before is
  abbrev Stays : TypedStmt → Type 0
  Stays t = Under l (jumps_out t)

  abbrev pub AllStay : List TypedStmt → Type 0
  AllStay ts = Under l (list_any jumps_out ts)

  abbrev MayStay : Option TypedStmt → Type 0
  MayStay o = Under l (or_not (option_map jumps_out o))

  settle : (P : TypedStmt → Type 0) (fs : List TypeFault) (o : Option TypedStmt) → (fs ≡ [] → OnMade P o) → OnMade P (elim fs as (λ x. Option TypedStmt) [ [] ↦ o | y ∷ ys ↦ None ])
  settle P [] o h = h refl
  settle P (y ∷ ys) o h = tt

  -- what is resolved of a statement at a place
  abbrev At : Place → TypedStmtKind → Type 0
  At place k = Stays (statement_at place k)

  whole : (c : Scope) (place : Place) (step : Step) → (own_faults place (AtStmt c (node_in c step)) ≡ [] → OnMade (At place) (resolved c step)) → (scope_behind c step).is_in_loop ≡ l → OnMade Stays (flow_of step place c).made × ((flow_of step place c).after.is_in_loop ≡ l)
  whole c place step h g =
      (settle Stays (own_faults place (AtStmt c (node_in c step))) (option_map (statement_at place) (resolved c step)) (λ o. so_map (statement_at place) Stays (At place) (resolved c step) (h o) (λ k q. q)), g)

  one_more : (done : List TypedStmt) (t : TypedStmt) → AllStay done → Stays t → AllStay (done ++ t ∷ [])
  one_more [] t h k = under_or l (jumps_out t) false k (never l false refl)
  one_more (d ∷ ds) t h k = under_or l (jumps_out d) (list_any jumps_out (ds ++ t ∷ [])) (left_under l (jumps_out d) (list_any jumps_out ds) h) (one_more ds t (right_under l (jumps_out d) (list_any jumps_out ds) h) k)

  nothing_more : (fs : List (Scope → Flow)) (c : Scope) (P : List TypedStmt → Type 0) → OnMade P (made_along None fs c)
  nothing_more [] c P = tt
  nothing_more (f ∷ fs) c P = nothing_more fs (f c).after P

-- in each scope, in a loop or not
abbrev Kept : (Scope → Flow) → Type 0
Kept f = (l : Bool) (c : Scope) → c.is_in_loop ≡ l → OnMade (Stays l) (f c).made × ((f c).after.is_in_loop ≡ l)

abbrev KeptStmt : Type 0
KeptStmt = (x : Stmt) × Kept (flow x)

abbrev flows : List KeptStmt → List (Scope → Flow)
flows xs = map flow (map (λ (x : KeptStmt). x.0) xs)

abbrev maybe : Option KeptStmt → Option (Scope → Flow)
maybe x = option_map flow (option_map (λ (x : KeptStmt). x.0) x)

along : (l : Bool) (xs : List KeptStmt) (done : List TypedStmt) (c : Scope) → c.is_in_loop ≡ l → AllStay l done → OnMade (AllStay l) (made_along (Some done) (flows xs) c)
along l [] done c g h = h
along l (x ∷ xs) done c g h =
    let f = x.1 l c g in
    by_made (flow x.0 c).made f.0 (λ t k. along l xs (done ++ t ∷ []) (flow x.0 c).after f.1 (one_more l done t h k)) where
      by_made : (o : Option TypedStmt) → OnMade (Stays l) o → ((t : TypedStmt) → Stays l t → OnMade (AllStay l) (made_along (Some (done ++ t ∷ [])) (flows xs) (flow x.0 c).after)) →
          OnMade (AllStay l) (made_along (pushed (Some done) o) (flows xs) (flow x.0 c).after)
      by_made None m later = nothing_more l (flows xs) (flow x.0 c).after (AllStay l)
      by_made (Some t) m later = later t m

maybe_made : (l : Bool) (x : Option KeptStmt) (c : Scope) → c.is_in_loop ≡ l → OnMade (MayStay l) (made_option (maybe x) c)
maybe_made l None c g = never l false refl
maybe_made l (Some x) c g = so_map Some (MayStay l) (Stays l) (flow x.0 c).made (x.1 l c g).0 (λ t h. h)

behind_init : (l : Bool) (x : Option KeptStmt) (c : Scope) → c.is_in_loop ≡ l → (after_init (maybe x) c).is_in_loop ≡ l
behind_init l None c g = g
behind_init l (Some x) c g = (x.1 l c g).1

if_made : (l : Bool) (test : Expr) (first : KeptStmt) (second : Option KeptStmt) (c : Scope) (place : Place) → c.is_in_loop ≡ l → OnMade (At l place) (resolved c (If (waiting test) (flow first.0) (maybe second)))
if_made l test first second c place g =
    any_then _ (At l place) (tree_of (operand c (waiting test)).seen) (λ t.
    so_then _ (At l place) (Stays l) (flow first.0 c).made (first.1 l c g).0 (λ a ha.
    so_map (λ b. made.If t a b) (At l place) (MayStay l) (made_option (maybe second) c) (maybe_made l second c g) (λ b hb.
    carried l (jumps_out (statement_at place (made.If t a b))) (jumps_out a || or_not (option_map jumps_out b)) (jumps_if place t a b) (under_or l (jumps_out a) (or_not (option_map jumps_out b)) ha hb))))

for_made : (l : Bool) (init : Option KeptStmt) (test : Option Expr) (change : Option KeptStmt) (body : KeptStmt) (c : Scope) (place : Place) → c.is_in_loop ≡ l →
    OnMade (At l place) (resolved c (For (maybe init) (option_map waiting test) (maybe change) (flow body.0)))
for_made l init test change body c place g =
    let d = after_init (maybe init) c in
    so_then _ (At l place) (MayStay l) (made_option (maybe init) c) (maybe_made l init c g) (λ i hi.
    any_then _ (At l place) (tree_option (seen_option d (option_map waiting test))) (λ t.
    so_then _ (At l place) (MayStay l) (made_option (maybe change) d) (maybe_made l change d (behind_init l init c g)) (λ ch hc.
    any_map (λ b. made.For i t ch b) (At l place) (flow body.0 (in_loop d)).made (λ b.
    carried l (jumps_out (statement_at place (made.For i t ch b))) (or_not (option_map jumps_out i) || or_not (option_map jumps_out ch)) (jumps_for place i t ch b) (under_or l (or_not (option_map jumps_out i)) (or_not (option_map jumps_out ch)) hi hc)))))

-- a jump without a fault is in a loop
jump_made : (l : Bool) (stops : Bool) (c : Scope) (place : Place) → c.is_in_loop ≡ l → own_faults place (AtStmt c Jumps) ≡ [] → OnMade (At l place) (resolved c (Jump stops))
jump_made l stops c place g o = λ e. sym g ∙ not_false c.is_in_loop (first_kept place 37 (not c.is_in_loop) _ o)

abbrev step : StmtKind-F (Place → Scope → Flow) (Scope → Flow) → Place → Scope → Flow
step kind = flow_of (step_of kind)

abbrev kind_flow : StmtKind → Place → Scope → Flow
kind_flow = fold-StmtKind (Place → Scope → Flow) (Scope → Flow) step (λ x. x.kind x.place)

abbrev KeptKind : Type 0
KeptKind = (k : StmtKind) × ((place : Place) → Kept (kind_flow k place))

layer : (y : StmtKind-F KeptKind KeptStmt) (place : Place) →
    Kept (step (map-StmtKind StmtKind Stmt (Place → Scope → Flow) (Scope → Flow) kind_flow flow (map-StmtKind KeptKind KeptStmt StmtKind Stmt (λ k. k.0) (λ x. x.0) y)) place)
layer (s.Block all) place l c g = whole l c place (Block (flows all))
    (λ o. so_map made.Block (At l place) (AllStay l) (made_along (Some []) (flows all) c) (along l all [] c g (never l false refl)) (λ ts h.
    carried l (jumps_out (statement_at place (made.Block ts))) (list_any jumps_out ts) (jumps_block place ts ∙ any_mapped ts) h)) g
layer s.Empty place l c g = whole l c place Empty (λ o. never l _ (jumps_empty place)) g
layer (s.Local t name value) place l c g = whole l c place (Local t name (option_map waiting value))
    (λ o. any_map (λ v. made.Local (receiver_slots c.is_static + count c) t v) (At l place) (tree_option (seen_option c (option_map waiting value))) (λ v. never l _ (jumps_local place (receiver_slots c.is_static + count c) t v))) g
layer (s.If test first None) place l c g = whole l c place (If (waiting test) (flow first.0) (maybe None)) (λ o. if_made l test first None c place g) g
layer (s.If test first (Some second)) place l c g = whole l c place (If (waiting test) (flow first.0) (maybe (Some second))) (λ o. if_made l test first (Some second) c place g) g
layer (s.While test body) place l c g = whole l c place (While (waiting test) (flow body.0))
    (λ o. any_then _ (At l place) (tree_of (operand c (waiting test)).seen) (λ t.
    any_map (λ b. made.While t b) (At l place) (flow body.0 (in_loop c)).made (λ b. never l _ (jumps_while place t b)))) g
layer (s.For None test None body) place l c g = whole l c place (For (maybe None) (option_map waiting test) (maybe None) (flow body.0)) (λ o. for_made l None test None body c place g) g
layer (s.For None test (Some change) body) place l c g = whole l c place (For (maybe None) (option_map waiting test) (maybe (Some change)) (flow body.0)) (λ o. for_made l None test (Some change) body c place g) g
layer (s.For (Some init) test None body) place l c g = whole l c place (For (maybe (Some init)) (option_map waiting test) (maybe None) (flow body.0)) (λ o. for_made l (Some init) test None body c place g) g
layer (s.For (Some init) test (Some change) body) place l c g = whole l c place (For (maybe (Some init)) (option_map waiting test) (maybe (Some change)) (flow body.0)) (λ o. for_made l (Some init) test (Some change) body c place g) g
layer s.Break place l c g = whole l c place (Jump true) (λ o. jump_made l true c place g o) g
layer s.Continue place l c g = whole l c place (Jump false) (λ o. jump_made l false c place g o) g
layer (s.Return value) place l c g = whole l c place (Return (option_map waiting value))
    (λ o. any_map made.Return (At l place) (tree_option (seen_option c (option_map waiting value))) (λ v. never l _ (jumps_return place v))) g
layer (s.Assign left n right) place l c g = whole l c place (Assign (waiting left) n (waiting right))
    (λ o. any_then _ (At l place) (tree_of (operand c (waiting left)).seen) (λ x.
    any_map (λ r. made.Assign x n r) (At l place) (tree_of (operand c (waiting right)).seen) (λ r. never l _ (jumps_assign place x n r)))) g
layer (s.Bump left up) place l c g = whole l c place (Bump (waiting left) up)
    (λ o. any_map (λ x. made.Bump x up) (At l place) (tree_of (operand c (waiting left)).seen) (λ x. never l _ (jumps_bump place x up))) g
layer (s.Run x) place l c g = whole l c place (Run (waiting x))
    (λ o. any_map made.Run (At l place) (tree_of (part c x role.Alone).seen) (λ e. never l _ (jumps_run place e))) g

flow_kept : (x : Stmt) → Kept (flow x)
flow_kept = ind-Stmt (λ k. (place : Place) → Kept (kind_flow k place)) (λ x. Kept (flow x))
    (λ x y is. subst (λ (z : Place → Scope → Flow). (place : Place) → Kept (z place)) (sym (fold-roll-StmtKind (Place → Scope → Flow) (Scope → Flow) step (λ x. x.kind x.place) x))
    (subst (λ (z : StmtKind-F StmtKind Stmt). (place : Place) → Kept (step (map-StmtKind StmtKind Stmt (Place → Scope → Flow) (Scope → Flow) kind_flow flow z) place)) is (layer y)))
    (λ x y is. subst Kept (sym (fold-roll-Stmt (Place → Scope → Flow) (Scope → Flow) step (λ x. x.kind x.place) x))
    (subst (λ (z : s.Stmt-F StmtKind Stmt). Kept (kind_flow z.kind z.place)) is (y.kind.1 y.place)))

-- the statements of a block
kept_all : List Stmt → List KeptStmt
kept_all [] = []
kept_all (x ∷ xs) = (x, flow_kept x) ∷ kept_all xs

flows_all : (xs : List Stmt) → flows (kept_all xs) ≡ map flow xs
unfolding kept_all
flows_all [] = refl
flows_all (x ∷ xs) = ap (λ (fs : List (Scope → Flow)). flow x ∷ fs) (flows_all xs)

pub block_stays : (xs : List Stmt) (c : Scope) → c.is_in_loop ≡ false → OnMade (AllStay false) (made_along (Some []) (map flow xs) c)
block_stays xs c g = subst (λ (fs : List (Scope → Flow)). OnMade (AllStay false) (made_along (Some []) fs c)) (flows_all xs) (along false (kept_all xs) [] c g (never false false refl))

-- MEMBERS AND CLASSES

pub so_in : (b : Bool) → Under false b → not b ≡ true
so_in true h = absurd (false≢true (h refl))
so_in false h = refl

member_stays : (seat : Seat) (m : Member) → OnMade (λ t. stays_in t ≡ true) (made_member seat (opened m))
member_stays seat m =
    any_then _ (λ t. stays_in t ≡ true) (made_guard (guard_of seat (opened m))) (λ guard.
    any_then _ (λ t. stays_in t ≡ true) (arguments (Some []) (option_map_or seen_all (super_parts seat (opened m)) [])) (λ args.
    so_map (λ block. member_from seat (opened m) guard args block) (λ t. stays_in t ≡ true) (AllStay false) (made_along (Some []) (map flow (block_part m.part)) (body_scope seat (opened m)))
    (block_stays (block_part m.part) (body_scope seat (opened m)) refl) (λ block h. so_in (list_any jumps_out block) h)))

more_all : {X : Type 0} (f : X → Bool) (xs : List X) (x : X) → list_all f xs ≡ true → f x ≡ true → list_all f (xs ++ x ∷ []) ≡ true
more_all f [] x h k = ap (λ b. b && true) k
more_all f (y ∷ ys) x h k = by_first (f y) h (more_all f ys x) where
  by_first : (b : Bool) → (b && list_all f ys) ≡ true → (list_all f ys ≡ true → f x ≡ true → list_all f (ys ++ x ∷ []) ≡ true) → (b && list_all f (ys ++ x ∷ [])) ≡ true
  by_first true h later = later h k
  by_first false h later = absurd (false≢true h)

no_members : (xs : List (Seat × Opened)) (P : List TypedMember → Type 0) → OnMade P (made_members None xs)
no_members [] P = tt
no_members (x ∷ xs) P = no_members xs P

members_stay : (heads : List Iface) (d : Decl) (earlier ms : List Member) (done : List TypedMember) → list_all stays_in done ≡ true → OnMade (λ ts. list_all stays_in ts ≡ true) (made_members (Some done) (seats heads d earlier (map opened ms)))
members_stay heads d earlier [] done h = h
members_stay heads d earlier (m ∷ ms) done h =
    let seat : Seat = record { heads = heads; decl = d; earlier = earlier } in
    by_member (made_member seat (opened m)) (member_stays seat m) (λ t k. members_stay heads d (earlier ++ m ∷ []) ms (done ++ t ∷ []) (more_all stays_in done t h k)) where
      by_member : (o : Option TypedMember) → OnMade (λ t. stays_in t ≡ true) o → ((t : TypedMember) → stays_in t ≡ true → OnMade (λ ts. list_all stays_in ts ≡ true) (made_members (Some (done ++ t ∷ [])) (seats heads d (earlier ++ m ∷ []) (map opened ms)))) →
          OnMade (λ ts. list_all stays_in ts ≡ true) (made_members (option_map (λ t. done ++ t ∷ []) o) (seats heads d (earlier ++ m ∷ []) (map opened ms)))
      by_member None g later = no_members (seats heads d (earlier ++ m ∷ []) (map opened ms)) (λ ts. list_all stays_in ts ≡ true)
      by_member (Some t) g later = later t g

-- with the constructor that isn't written
default_stays : (d : Decl) (ms : List TypedMember) → list_all stays_in ms ≡ true → list_all stays_in (with_default d ms) ≡ true
default_stays d ms k = by_kind d.is_interface where
  by_written : (b : Bool) → list_all stays_in (if b then ms ++ default_constructor ∷ [] else ms) ≡ true
  by_written true = more_all stays_in ms default_constructor k refl
  by_written false = k

  by_kind : (b : Bool) → list_all stays_in (cond b ms (if has_no_constructor d then ms ++ default_constructor ∷ [] else ms)) ≡ true
  by_kind true = k
  by_kind false = by_written (has_no_constructor d)

abbrev class_stays : TypedClass → Bool
class_stays c = list_all stays_in c.members

class_made : (heads : List Iface) (d : Decl) → OnMade (λ c. class_stays c ≡ true) (made_class heads (open_decl d))
class_made heads d =
    so_map _ (λ c. class_stays c ≡ true) (λ ts. list_all stays_in ts ≡ true) (made_members (Some []) (seats_of heads (open_decl d))) (members_stay heads d [] d.members [] refl) (λ ms h. default_stays d ms h)

no_classes : (heads : List Iface) (ds : List OpenDecl) (P : List TypedClass → Type 0) → OnMade P (made_classes heads None ds)
no_classes heads [] P = tt
no_classes heads (d ∷ ds) P = no_classes heads ds P

classes_stay : (heads : List Iface) (ds : List Decl) (done : List TypedClass) → list_all class_stays done ≡ true → OnMade (λ cs. list_all class_stays cs ≡ true) (made_classes heads (Some done) (map open_decl ds))
classes_stay heads [] done h = h
classes_stay heads (d ∷ ds) done h =
    by_class (made_class heads (open_decl d)) (class_made heads d) (λ c k. classes_stay heads ds (done ++ c ∷ []) (more_all class_stays done c h k)) where
      by_class : (o : Option TypedClass) → OnMade (λ c. class_stays c ≡ true) o → ((c : TypedClass) → class_stays c ≡ true → OnMade (λ cs. list_all class_stays cs ≡ true) (made_classes heads (Some (done ++ c ∷ [])) (map open_decl ds))) →
          OnMade (λ cs. list_all class_stays cs ≡ true) (made_classes heads (option_map (λ c. done ++ c ∷ []) o) (map open_decl ds))
      by_class None g later = no_classes heads (map open_decl ds) (λ cs. list_all class_stays cs ≡ true)
      by_class (Some c) g later = later c g

abbrev unit_stays : TypedUnit → Type 0
unit_stays tree = list_all class_stays tree.classes ≡ true

pub typed_stays : TypedJumpsStandInLoops
typed_stays unit others tree typed =
    let heads = heads_of unit.decls others in
    subst (OnMade unit_stays) typed.resolved
    (so_map _ unit_stays (λ cs. list_all class_stays cs ≡ true) (made_classes heads (Some []) (map open_decl unit.decls)) (classes_stay heads unit.decls [] refl) (λ cs h. h))
