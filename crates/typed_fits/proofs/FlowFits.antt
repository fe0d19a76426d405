-- A statement without a fault has a tree that fits.
use Rattle.std.proofs.Common.{◌≡◌, ◌+◌, Bool, true, false, List, [], ◌∷◌, ◌++◌, map, Option, Some, None, refl, sym, ap, ◌∙◌, subst, arith}
use Rattle.std.specs.Prelude.{◌&&◌, ◌==◌, not}
use Rattle.std.specs.List.{list_all}
use Rattle.std.specs.Option.{option_map, option_and_then}
use Rattle.jp_pred.specs.declared.ty.Ty.{Ty}
use Rattle.jp_pred.specs.Names.{Word}
use Rattle.iface_codec.specs.declared.iface.Iface.{Iface}
use Rattle.jp_ast.specs.declared.token.Place.{Place}
use Rattle.jp_ast.specs.declared.expr.Expr.{Expr}
use Rattle.jp_ast.specs.declared.stmt.Stmt.{Stmt}
use Rattle.jp_ast.specs.declared.stmt.StmtKind.{StmtKind, StmtKind-F}
use Rattle.jp_ast.specs.declared.stmt.StmtKind.TheOpen as s
use Rattle.jp_ast.specs.declared.stmt.StmtKind.TheFolds.{ind-Stmt, fold-StmtKind, fold-roll-Stmt, fold-roll-StmtKind, map-StmtKind}
use Rattle.jp_meaning.specs.declared.expr.TypedExpr.{TypedExpr}
use Rattle.jp_meaning.specs.declared.stmt.TypedStmt.{TypedStmt}
use Rattle.jp_meaning.specs.declared.stmt.TypedStmtKind.TheVariants as made
use Rattle.jp_meaning.specs.Run.{Program}
use Rattle.type_rules.specs.declared.fault.TypeFault.{TypeFault}
use Rattle.type_rules.specs.declared.scope.Scope.{Scope}
use Rattle.type_rules.specs.declared.seen.Role.TheVariants as role
use Rattle.type_rules.specs.declared.seen.Seen.{Seen}
use Rattle.type_rules.specs.declared.seen.Seen.TheVariants as seen
use Rattle.type_rules.specs.Names.{receiver_slots}
use Rattle.type_rules.specs.Nodes.{AtStmt}
use Rattle.type_rules.specs.Table.{own_faults}
use Rattle.type_rules.specs.Expressions.{part}
use Rattle.type_rules.specs.Statements.{Flow, waiting, Step, Block, Empty, Local, If, While, For, Jump, Return, Assign, Bump, Run, step_of, declared, in_loop, count, after_init, operand, seen_option, pushed, made_along, node_in, scope_behind, tree_of, tree_option, made_option, resolved, statement_at, flow_of, flow}
use Rattle.calls_fit.specs.Fitting.{Checked, check, or_fits, is_target, stmt_fits}
use Rattle.calls_fit.proofs.Named.{first_true, second_true, first_of, second_of}
use Rattle.typed_fits.proofs.CheckedForms.{ok_block, ok_empty, ok_local, ok_if, ok_while, ok_for, ok_break, ok_continue, ok_return, ok_assign, ok_bump, ok_run}
use Rattle.typed_fits.proofs.SeenFits.{Setting, IsFit, Fit, and_so, not_first, part_fit}

-- what is known of what there is, if there is something
abbrev pub OnMade : {A : Type 0} → (A → Type 0) → Option A → Type 0
OnMade P None = Unit {0}
OnMade P (Some x) = P x

map_made : {A B : Type 0} (f : A → B) (P : B → Type 0) (o : Option A) → OnMade (λ x. P (f x)) o → OnMade P (option_map f o)
map_made f P None h = tt
map_made f P (Some x) h = h

then_made : {A B : Type 0} (f : A → Option B) (P : B → Type 0) (o : Option A) → OnMade (λ x. OnMade P (f x)) o → OnMade P (option_and_then f o)
then_made f P None h = tt
then_made f P (Some x) h = h

so_made : {A : Type 0} (P Q : A → Type 0) (o : Option A) → OnMade P o → ((x : A) → P x → Q x) → OnMade Q o
so_made P Q None h k = tt
so_made P Q (Some x) h k = k x h

module _ (p : Program) (head : Iface) (receiver : Bool) where
  abbrev chk : TypedExpr → Checked
  chk = check p head receiver

  abbrev ok : TypedStmt → Bool
  ok = stmt_fits p head receiver

  -- a scope of the same class
  abbrev Here : Scope → Type 0
  Here = Setting p head receiver

  declared_here : (c : Scope) (t : Ty) (name : Word) → Here c → Here (declared c t name)
  declared_here c t name g = record { nameable = g.nameable; static = g.static; above = g.above }

  loop_here : (c : Scope) → Here c → Here (in_loop c)
  loop_here c g = record { nameable = g.nameable; static = g.static; above = g.above }

  -- EXPRESSIONS

  tree_made : (x : Seen) → Fit p head receiver x → OnMade (IsFit p head receiver) (tree_of x)
  tree_made seen.Faulty h = tt
  tree_made (seen.Value k) h = h
  tree_made (seen.Class name) h = tt
  tree_made (seen.Text text) h = tt

  operand_made : (c : Scope) → Here c → (x : Expr) → OnMade (IsFit p head receiver) (tree_of (operand c (waiting x)).seen)
  operand_made c g x = tree_made (operand c (waiting x)).seen (part_fit p head receiver c g x role.Operand)

  alone_made : (c : Scope) → Here c → (x : Expr) → OnMade (IsFit p head receiver) (tree_of (part c x role.Alone).seen)
  alone_made c g x = tree_made (part c x role.Alone).seen (part_fit p head receiver c g x role.Alone)

  option_made : (c : Scope) → Here c → (x : Option Expr) → OnMade (λ v. or_fits (λ e. (chk e).fits) v ≡ true) (tree_option (seen_option c (option_map waiting x)))
  option_made c g None = refl
  option_made c g (Some x) = map_made Some (λ v. or_fits (λ e. (chk e).fits) v ≡ true) (tree_of (operand c (waiting x)).seen) (so_made (IsFit p head receiver) (λ e. (chk e).fits ≡ true) (tree_of (operand c (waiting x)).seen) (operand_made c g x) (λ e h. first_of h))

  -- STATEMENTS

  abbrev pub FitFlow : (Scope → Flow) → Type 0
  FitFlow f = (c : Scope) → Here c → OnMade (λ t. ok t ≡ true) (f c).made × Here (f c).after

  settle : (P : TypedStmt → Type 0) (fs : List TypeFault) (o : Option TypedStmt) → OnMade P o → OnMade P (elim fs as (λ x. Option TypedStmt) [ [] ↦ o | y ∷ ys ↦ None ])
  settle P [] o h = h
  settle P (y ∷ ys) o h = tt

  whole : (c : Scope) (place : Place) (step : Step) → OnMade (λ k. ok (statement_at place k) ≡ true) (resolved c step) → Here (scope_behind c step) → OnMade (λ t. ok t ≡ true) (flow_of step place c).made × Here (flow_of step place c).after
  whole c place step h g =
      (settle (λ t. ok t ≡ true) (own_faults place (AtStmt c (node_in c step))) (option_map (statement_at place) (resolved c step)) (map_made (statement_at place) (λ t. ok t ≡ true) (resolved c step) h), g)

  abbrev FitStmt : Type 0
  FitStmt = (x : Stmt) × FitFlow (flow x)

  abbrev flows : List FitStmt → List (Scope → Flow)
  flows xs = map flow (map (λ (x : FitStmt). x.0) xs)

  nothing_more : (fs : List (Scope → Flow)) (c : Scope) (P : List TypedStmt → Type 0) → OnMade P (made_along None fs c)
  nothing_more [] c P = tt
  nothing_more (f ∷ fs) c P = nothing_more fs (f c).after P

  one_more : (done : List TypedStmt) (t : TypedStmt) → list_all ok done ≡ true → ok t ≡ true → list_all ok (done ++ t ∷ []) ≡ true
  one_more [] t h k = and_so (ok t) true k refl
  one_more (d ∷ ds) t h k = and_so (ok d) (list_all ok (ds ++ t ∷ [])) (first_true (ok d) (list_all ok ds) h) (one_more ds t (second_true (ok d) (list_all ok ds) h) k)

  along : (xs : List FitStmt) (done : List TypedStmt) (c : Scope) → Here c → list_all ok done ≡ true → OnMade (λ ts. list_all ok ts ≡ true) (made_along (Some done) (flows xs) c)
  along [] done c g h = h
  along (x ∷ xs) done c g h =
      let f = x.1 c g in
      by_made (flow x.0 c).made (first_of f) (λ t k. along xs (done ++ t ∷ []) (flow x.0 c).after (second_of f) (one_more done t h k)) where
        by_made : (o : Option TypedStmt) → OnMade (λ t. ok t ≡ true) o → ((t : TypedStmt) → ok t ≡ true → OnMade (λ ts. list_all ok ts ≡ true) (made_along (Some (done ++ t ∷ [])) (flows xs) (flow x.0 c).after)) →
            OnMade (λ ts. list_all ok ts ≡ true) (made_along (pushed (Some done) o) (flows xs) (flow x.0 c).after)
        by_made None m later = nothing_more (flows xs) (flow x.0 c).after (λ ts. list_all ok ts ≡ true)
        by_made (Some t) m later = later t m

  map_all : (ts : List TypedStmt) → list_all ok ts ≡ true → list_all (λ b. b) (map ok ts) ≡ true
  map_all [] h = refl
  map_all (t ∷ ts) h = and_so (ok t) (list_all (λ b. b) (map ok ts)) (first_true (ok t) (list_all ok ts) h) (map_all ts (second_true (ok t) (list_all ok ts) h))

  abbrev maybe : Option FitStmt → Option (Scope → Flow)
  maybe x = option_map flow (option_map (λ (x : FitStmt). x.0) x)

  maybe_made : (x : Option FitStmt) (c : Scope) → Here c → OnMade (λ s. or_fits (λ b. b) (option_map ok s) ≡ true) (made_option (maybe x) c)
  maybe_made None c g = refl
  maybe_made (Some x) c g = map_made Some (λ s. or_fits (λ b. b) (option_map ok s) ≡ true) (flow x.0 c).made (first_of (x.1 c g))

  -- a statement that may be left out leaves a scope of the class
  init_here : (x : Option FitStmt) (c : Scope) → Here c → Here (after_init (maybe x) c)
  init_here None c g = g
  init_here (Some x) c g = second_of (x.1 c g)

  target_is : (x : TypedExpr) → IsFit p head receiver x → is_target receiver (chk x) ≡ true
  target_is x h = and_so (chk x).fits (not (receiver && (chk x).is_first)) (first_of h) (ap not (second_of h))

  if_made : (test : Expr) (first : FitStmt) (second : Option FitStmt) (c : Scope) (place : Place) → Here c → OnMade (λ k. ok (statement_at place k) ≡ true) (resolved c (If (waiting test) (flow first.0) (maybe second)))
  if_made test first second c place g =
      then_made _ (λ k. ok (statement_at place k) ≡ true) (tree_of (operand c (waiting test)).seen) (so_made (IsFit p head receiver) _ (tree_of (operand c (waiting test)).seen) (operand_made c g test) (λ t ht.
      then_made _ (λ k. ok (statement_at place k) ≡ true) (flow first.0 c).made (so_made (λ t. ok t ≡ true) _ (flow first.0 c).made (first_of (first.1 c g)) (λ a ha.
      map_made (λ b. made.If t a b) (λ k. ok (statement_at place k) ≡ true) (made_option (maybe second) c) (so_made (λ s. or_fits (λ b. b) (option_map ok s) ≡ true) _ (made_option (maybe second) c) (maybe_made second c g) (λ b hb.
      ok_if p head receiver place t a b ∙ and_so (chk t).fits (ok a && or_fits (λ b. b) (option_map ok b)) (first_of ht) (and_so (ok a) (or_fits (λ b. b) (option_map ok b)) ha hb)))))))

  for_made : (init : Option FitStmt) (test : Option Expr) (change : Option FitStmt) (body : FitStmt) (c : Scope) (place : Place) → Here c →
      OnMade (λ k. ok (statement_at place k) ≡ true) (resolved c (For (maybe init) (option_map waiting test) (maybe change) (flow body.0)))
  for_made init test change body c place g =
      let d = after_init (maybe init) c in
      let gd = init_here init c g in
      then_made _ (λ k. ok (statement_at place k) ≡ true) (made_option (maybe init) c) (so_made (λ s. or_fits (λ b. b) (option_map ok s) ≡ true) _ (made_option (maybe init) c) (maybe_made init c g) (λ i hi.
      then_made _ (λ k. ok (statement_at place k) ≡ true) (tree_option (seen_option d (option_map waiting test))) (so_made (λ v. or_fits (λ e. (chk e).fits) v ≡ true) _ (tree_option (seen_option d (option_map waiting test))) (option_made d gd test) (λ t ht.
      then_made _ (λ k. ok (statement_at place k) ≡ true) (made_option (maybe change) d) (so_made (λ s. or_fits (λ b. b) (option_map ok s) ≡ true) _ (made_option (maybe change) d) (maybe_made change d gd) (λ ch hc.
      map_made (λ b. made.For i t ch b) (λ k. ok (statement_at place k) ≡ true) (flow body.0 (in_loop d)).made (so_made (λ t. ok t ≡ true) _ (flow body.0 (in_loop d)).made (first_of (body.1 (in_loop d) (loop_here d gd))) (λ b hb.
      ok_for p head receiver place i t ch b
      ∙ and_so (or_fits (λ b. b) (option_map ok i)) (or_fits (λ e. (chk e).fits) t && (or_fits (λ b. b) (option_map ok ch) && ok b)) hi
      (and_so (or_fits (λ e. (chk e).fits) t) (or_fits (λ b. b) (option_map ok ch) && ok b) ht (and_so (or_fits (λ b. b) (option_map ok ch)) (ok b) hc hb))))))))))

  abbrev step : StmtKind-F (Place → Scope → Flow) (Scope → Flow) → Place → Scope → Flow
  step kind = flow_of (step_of kind)

  abbrev kind_flow : StmtKind → Place → Scope → Flow
  kind_flow = fold-StmtKind (Place → Scope → Flow) (Scope → Flow) step (λ x. x.kind x.place)

  abbrev FitKind : Type 0
  FitKind = (k : StmtKind) × ((place : Place) → FitFlow (kind_flow k place))

  layer : (y : StmtKind-F FitKind FitStmt) (place : Place) →
      FitFlow (step (map-StmtKind StmtKind Stmt (Place → Scope → Flow) (Scope → Flow) kind_flow flow (map-StmtKind FitKind FitStmt StmtKind Stmt (λ k. k.0) (λ x. x.0) y)) place)
  layer (s.Block all) place c g = whole c place (Block (flows all))
      (map_made made.Block (λ k. ok (statement_at place k) ≡ true) (made_along (Some []) (flows all) c) (so_made (λ ts. list_all ok ts ≡ true) _ (made_along (Some []) (flows all) c) (along all [] c g refl) (λ ts h. ok_block p head receiver place ts ∙ map_all ts h))) g
  layer s.Empty place c g = whole c place Empty (ok_empty p head receiver place) g
  layer (s.Local t name value) place c g = whole c place (Local t name (option_map waiting value))
      (map_made (λ v. made.Local (receiver_slots c.is_static + count c) t v) (λ k. ok (statement_at place k) ≡ true) (tree_option (seen_option c (option_map waiting value)))
      (so_made (λ v. or_fits (λ e. (chk e).fits) v ≡ true) _ (tree_option (seen_option c (option_map waiting value))) (option_made c g value) (λ v h.
      ok_local p head receiver place (receiver_slots c.is_static + count c) t v
      ∙ and_so (not (receiver && (receiver_slots c.is_static + count c) == 0)) (or_fits (λ e. (chk e).fits) v)
      (ap not (not_first p head receiver c g c.is_static g.static (receiver_slots c.is_static + count c) (omega arith))) h))) (declared_here c t name g)
  layer (s.If test first None) place c g = whole c place (If (waiting test) (flow first.0) (maybe None)) (if_made test first None c place g) g
  layer (s.If test first (Some second)) place c g = whole c place (If (waiting test) (flow first.0) (maybe (Some second))) (if_made test first (Some second) c place g) g
  layer (s.While test body) place c g = whole c place (While (waiting test) (flow body.0))
      (then_made _ (λ k. ok (statement_at place k) ≡ true) (tree_of (operand c (waiting test)).seen) (so_made (IsFit p head receiver) _ (tree_of (operand c (waiting test)).seen) (operand_made c g test) (λ t ht.
      map_made (λ b. made.While t b) (λ k. ok (statement_at place k) ≡ true) (flow body.0 (in_loop c)).made (so_made (λ t. ok t ≡ true) _ (flow body.0 (in_loop c)).made (first_of (body.1 (in_loop c) (loop_here c g))) (λ b hb.
      ok_while p head receiver place t b ∙ and_so (chk t).fits (ok b) (first_of ht) hb))))) g
  layer (s.For None test None body) place c g = whole c place (For (maybe None) (option_map waiting test) (maybe None) (flow body.0)) (for_made None test None body c place g) g
  layer (s.For None test (Some change) body) place c g = whole c place (For (maybe None) (option_map waiting test) (maybe (Some change)) (flow body.0)) (for_made None test (Some change) body c place g) g
  layer (s.For (Some init) test None body) place c g = whole c place (For (maybe (Some init)) (option_map waiting test) (maybe None) (flow body.0)) (for_made (Some init) test None body c place g) g
  layer (s.For (Some init) test (Some change) body) place c g = whole c place (For (maybe (Some init)) (option_map waiting test) (maybe (Some change)) (flow body.0)) (for_made (Some init) test (Some change) body c place g) g
  layer s.Break place c g = whole c place (Jump true) (ok_break p head receiver place) g
  layer s.Continue place c g = whole c place (Jump false) (ok_continue p head receiver place) g
  layer (s.Return value) place c g = whole c place (Return (option_map waiting value))
      (map_made made.Return (λ k. ok (statement_at place k) ≡ true) (tree_option (seen_option c (option_map waiting value))) (so_made (λ v. or_fits (λ e. (chk e).fits) v ≡ true) _ (tree_option (seen_option c (option_map waiting value))) (option_made c g value) (λ v h. ok_return p head receiver place v ∙ h))) g
  layer (s.Assign left n right) place c g = whole c place (Assign (waiting left) n (waiting right))
      (then_made _ (λ k. ok (statement_at place k) ≡ true) (tree_of (operand c (waiting left)).seen) (so_made (IsFit p head receiver) _ (tree_of (operand c (waiting left)).seen) (operand_made c g left) (λ l hl.
      map_made (λ r. made.Assign l n r) (λ k. ok (statement_at place k) ≡ true) (tree_of (operand c (waiting right)).seen) (so_made (IsFit p head receiver) _ (tree_of (operand c (waiting right)).seen) (operand_made c g right) (λ r hr.
      ok_assign p head receiver place l n r ∙ and_so (is_target receiver (chk l)) (chk r).fits (target_is l hl) (first_of hr)))))) g
  layer (s.Bump left up) place c g = whole c place (Bump (waiting left) up)
      (map_made (λ l. made.Bump l up) (λ k. ok (statement_at place k) ≡ true) (tree_of (operand c (waiting left)).seen) (so_made (IsFit p head receiver) _ (tree_of (operand c (waiting left)).seen) (operand_made c g left) (λ l hl. ok_bump p head receiver place l up ∙ target_is l hl))) g
  layer (s.Run x) place c g = whole c place (Run (waiting x))
      (map_made made.Run (λ k. ok (statement_at place k) ≡ true) (tree_of (part c x role.Alone).seen) (so_made (IsFit p head receiver) _ (tree_of (part c x role.Alone).seen) (alone_made c g x) (λ e h. ok_run p head receiver place e ∙ first_of h))) g

  pub flow_fit : (x : Stmt) → FitFlow (flow x)
  flow_fit = ind-Stmt (λ k. (place : Place) → FitFlow (kind_flow k place)) (λ x. FitFlow (flow x))
      (λ x y is. subst (λ (z : Place → Scope → Flow). (place : Place) → FitFlow (z place)) (sym (fold-roll-StmtKind (Place → Scope → Flow) (Scope → Flow) step (λ x. x.kind x.place) x))
      (subst (λ (z : StmtKind-F StmtKind Stmt). (place : Place) → FitFlow (step (map-StmtKind StmtKind Stmt (Place → Scope → Flow) (Scope → Flow) kind_flow flow z) place)) is (layer y)))
      (λ x y is. subst FitFlow (sym (fold-roll-Stmt (Place → Scope → Flow) (Scope → Flow) step (λ x. x.kind x.place) x))
      (subst (λ (z : s.Stmt-F StmtKind Stmt). FitFlow (kind_flow z.kind z.place)) is (y.kind.1 y.place)))

  -- the statements of a block
  pub block_fit : (xs : List Stmt) (c : Scope) → Here c → OnMade (λ ts. list_all ok ts ≡ true) (made_along (Some []) (map flow xs) c)
  block_fit xs c g = subst (λ (fs : List (Scope → Flow)). OnMade (λ ts. list_all ok ts ≡ true) (made_along (Some []) fs c)) (with_fits xs) (along (fits xs) [] c g refl) where
    fits : List Stmt → List FitStmt
    fits [] = []
    fits (x ∷ xs) = (x, flow_fit x) ∷ fits xs

    with_fits : (xs : List Stmt) → flows (fits xs) ≡ map flow xs
    with_fits [] = refl
    with_fits (x ∷ xs) = ap (λ (fs : List (Scope → Flow)). flow x ∷ fs) (with_fits xs)
