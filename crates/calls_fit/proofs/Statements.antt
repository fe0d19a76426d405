-- Statements that fit call with what is declared, and leave the receiver in its place.
use Rattle.std.proofs.Common.{◌≡◌, ℕ, zero, suc, Bool, true, false, List, [], ◌∷◌, map, Option, Some, None, refl, sym, ap, ◌∙◌, subst}
use Rattle.std.specs.Prelude.{pos, slice_get, slice_set, cond, not, ◌&&◌, ◌==◌}
use Rattle.std.specs.List.{list_all}
use Rattle.std.proofs.lemmas.Bool.{false≢true}
use Rattle.jp_pred.specs.declared.ty.Ty.{Ty}
use Rattle.jp_pred.specs.Names.{Word}
use Rattle.iface_codec.specs.declared.iface.Iface.{Iface}
use Rattle.jp_store.specs.declared.value.Value.{Value}
use Rattle.jp_store.specs.declared.value.Value.TheVariants.{Int}
use Rattle.jp_store.specs.declared.value.Kind.{Kind}
use Rattle.jp_store.specs.declared.operator.BinaryOp.{BinaryOp}
use Rattle.jp_store.specs.declared.operator.BinaryOp.TheVariants.{Add, Subtract}
use Rattle.jp_store.specs.Arith.{binary, default_of}
use Rattle.jp_store.specs.Work.{GetField, PutField, GetStatic, PutStatic, GetElem, PutElem}
use Rattle.jp_does.specs.Does.{Gives, Ticks, then_do, do_of, found}
use Rattle.jp_meaning.specs.declared.expr.TypedExpr.{TypedExpr}
use Rattle.jp_meaning.specs.declared.stmt.TypedStmt.{TypedStmt}
use Rattle.jp_meaning.specs.declared.stmt.TypedStmtKind.{TypedStmtKind, TypedStmtKind-F}
use Rattle.jp_meaning.specs.declared.stmt.TypedStmtKind.TheOpen as stmt
use Rattle.jp_meaning.specs.declared.stmt.TypedStmtKind.TheFolds as stmt_fold
use Rattle.jp_meaning.specs.Does.{Does}
use Rattle.jp_meaning.specs.Descriptors.{kind_of_type}
use Rattle.jp_meaning.specs.Signs.{Change, Becomes, Changes, change_of}
use Rattle.jp_meaning.specs.Expressions.{Locals, of_kind, typed, Spot, Slot, FieldOf, StaticAt, ElementOf, Meant, meant, values_of, value_of}
use Rattle.jp_meaning.specs.Statements.{Left, Goes, Breaks, Continues, Returned, go_on, around, skip, turns, in_order, test_of, put_local, read_spot, put_spot, assign, bump, declare, leave, does_step, does, block_does}
use Rattle.jp_meaning.specs.Run.{World, Program}
use Rattle.calls_fit.specs.Fitting.{ProgramFits, Checked, all_fit, check, or_fits, is_target, stmt_step, stmt_fits}
use Rattle.calls_fit.proofs.Named.{first_true, second_true, first_of, second_of, both_are}
use Rattle.calls_fit.proofs.Sure.{Sure, then_sure, do_sure, found_sure, kind_sure, typed_sure, by_sure, Here, Holds, tick_sure, work_sure, local_sure}
use Rattle.calls_fit.proofs.Expressions.{Inside, IsRightReceiver, IsApart, Well, expr_well}

true_no : (b : Bool) → not b ≡ true → b ≡ false
true_no true e = absurd (false≢true e)
true_no false e = refl

-- a local that isn't the first
apart_holds : (receiver : Bool) (this : Value) (slot : ℕ) (env : Locals) (v : Value) → (receiver && slot == 0) ≡ false → Holds receiver this env → Holds receiver this (slice_set env slot (Some v))
apart_holds receiver this zero env v a held = λ r. absurd (false≢true (sym a ∙ ap (λ (b : Bool). b && true) r))
apart_holds receiver this (suc slot) [] v a held = held
apart_holds receiver this (suc slot) (x ∷ env) v a held = held

module _ (p : Program) (f : ProgramFits p) (n : ℕ) (head : Iface) (at : Inside p head) (receiver : Bool) (this : Value) (own : Word) (right : IsRightReceiver p head receiver own) where
  abbrev H : World → Type 0
  H = Here receiver this own []

  abbrev S : {A : Type 0} → Does A → World → (A → World → Type 0) → Type 0
  S = Sure p n head

  -- how a statement leaves
  abbrev pub After : Left → World → Type 0
  After (Goes env) w = Holds receiver this env × H w
  After (Breaks env) w = Holds receiver this env × H w
  After (Continues env) w = Holds receiver this env × H w
  After (Returned v) w = H w

  abbrev chk : TypedExpr → Checked
  chk = check p head receiver

  abbrev Good : Meant → Checked → Type 0
  Good m c = Well p f n head at receiver this own right m c

  good : (e : TypedExpr) → (chk e).fits ≡ true → Good (meant e) (chk e)
  good = expr_well p f n head at receiver this own right

  value_sure : (e : TypedExpr) → (chk e).fits ≡ true → (env : Locals) (w : World) → Holds receiver this env → H w → S (value_of e env) w (λ v u. H u)
  value_sure e h env w held i = (good e h).value [] env w held i

  pub values_sure : (es : List TypedExpr) → all_fit (map chk es) ≡ true → (env : Locals) (w : World) → Holds receiver this env → H w → S (values_of (map meant es) env) w (λ vs u. H u)
  values_sure [] h env w held i = i
  values_sure (e ∷ es) h env w held i =
      then_sure p n head (value_of e env) (λ v. then_do (values_of (map meant es) env) (λ vs. Gives (v ∷ vs))) w (λ v u. H u) (λ vs u. H u) (value_sure e (first_true (chk e).fits (all_fit (map chk es)) h) env w held i) (λ v u j.
      then_sure p n head (values_of (map meant es) env) (λ vs. Gives (v ∷ vs)) u (λ vs u. H u) (λ vs u. H u) (values_sure es (second_true (chk e).fits (all_fit (map chk es)) h) env u held j) (λ vs u l. l))

  put_local_sure : (slot : ℕ) (kind : Kind) (v : Value) (env : Locals) (w : World) → (receiver && slot == 0) ≡ false → Holds receiver this env → H w → S (put_local slot kind v env) w After
  put_local_sure slot kind v env w a held i =
      kind_sure p n head kind v (λ x. found (slice_get env slot) (λ old. Gives (Goes (slice_set env slot (Some x))))) w After (λ e.
      found_sure p n head (slice_get env slot) (λ old. Gives (Goes (slice_set env slot (Some v)))) w After (λ old e. (apart_holds receiver this slot env v a held, i)))

  read_sure : (t : Ty) (spot : Spot) (env : Locals) (w : World) → H w → S (read_spot t spot env) w (λ v u. H u)
  read_sure t (Slot slot kind) env w i = local_sure p n head receiver this own [] slot kind env w i
  read_sure t (FieldOf o key) env w i = work_sure p n head receiver this own [] (GetField o key) (typed t) w (λ v u. H u) i (λ v u j. typed_sure p n head t v u (λ v u. H u) j)
  read_sure t (StaticAt key) env w i = work_sure p n head receiver this own [] (GetStatic key) (typed t) w (λ v u. H u) i (λ v u j. typed_sure p n head t v u (λ v u. H u) j)
  read_sure t (ElementOf kind a k) env w i = work_sure p n head receiver this own [] (GetElem kind a k) (typed t) w (λ v u. H u) i (λ v u j. typed_sure p n head t v u (λ v u. H u) j)

  put_sure : (spot : Spot) (v : Value) (env : Locals) (w : World) → IsApart receiver spot → Holds receiver this env → H w → S (put_spot spot v env) w After
  put_sure (Slot slot kind) v env w a held i = put_local_sure slot kind v env w a held i
  put_sure (FieldOf o key) v env w a held i = work_sure p n head receiver this own [] (PutField o key v) (λ done. skip env) w After i (λ v u j. (held, j))
  put_sure (StaticAt key) v env w a held i = work_sure p n head receiver this own [] (PutStatic key v) (λ done. skip env) w After i (λ v u j. (held, j))
  put_sure (ElementOf kind x k) v env w a held i = work_sure p n head receiver this own [] (PutElem kind x k v) (λ done. skip env) w After i (λ v u j. (held, j))

  apart : (c : Checked) → is_target receiver c ≡ true → (receiver && c.is_first) ≡ false
  apart c h = true_no (receiver && c.is_first) (second_true c.fits (not (receiver && c.is_first)) h)

  assign_sure : (change : Change) (left right : TypedExpr) → is_target receiver (chk left) ≡ true → (chk right).fits ≡ true → (env : Locals) (w : World) → Holds receiver this env → H w → S (assign change (meant left) (meant right) env) w After
  assign_sure Becomes left right h k env w held i =
      then_sure p n head ((meant left).spot env) _ w (λ x u. H u × IsApart receiver x) After ((good left (first_true (chk left).fits (not (receiver && (chk left).is_first)) h)).spot (apart (chk left) h) [] env w held i) (λ spot u j.
      then_sure p n head (value_of right env) _ u (λ v u. H u) After (value_sure right k env u held (first_of j)) (λ v x l. put_sure spot v env x (second_of j) held l))
  assign_sure (Changes op) left right h k env w held i =
      then_sure p n head ((meant left).spot env) _ w (λ x u. H u × IsApart receiver x) After ((good left (first_true (chk left).fits (not (receiver && (chk left).is_first)) h)).spot (apart (chk left) h) [] env w held i) (λ spot u j.
      then_sure p n head (read_spot (meant left).ty spot env) _ u (λ v u. H u) After (read_sure (meant left).ty spot env u (first_of j)) (λ x y l.
      then_sure p n head (value_of right env) _ y (λ v u. H u) After (value_sure right k env y held l) (λ v z m. do_sure p n head (binary op x v) _ z After (λ r. put_sure spot r env z (second_of j) held m))))

  bump_sure : (op : BinaryOp) (left : TypedExpr) → is_target receiver (chk left) ≡ true → (env : Locals) (w : World) → Holds receiver this env → H w → S (bump op (meant left) env) w After
  bump_sure op left h env w held i =
      then_sure p n head ((meant left).spot env) _ w (λ x u. H u × IsApart receiver x) After ((good left (first_true (chk left).fits (not (receiver && (chk left).is_first)) h)).spot (apart (chk left) h) [] env w held i) (λ spot u j.
      then_sure p n head (read_spot (meant left).ty spot env) _ u (λ v u. H u) After (read_sure (meant left).ty spot env u (first_of j)) (λ x y l. do_sure p n head (binary op x (Int (pos 1))) _ y After (λ r. put_sure spot r env y (second_of j) held l)))

  declare_sure : (slot : ℕ) (t : Ty) (value : Option TypedExpr) → (not (receiver && slot == 0) && or_fits (λ e. (chk e).fits) value) ≡ true → (env : Locals) (w : World) → Holds receiver this env → H w → S (declare slot t value env) w After
  declare_sure slot t None h env w held i =
      found_sure p n head (kind_of_type t) (λ kind. put_local slot kind (default_of kind) env) w After (λ kind e. put_local_sure slot kind (default_of kind) env w (true_no (receiver && slot == 0) (first_true (not (receiver && slot == 0)) true h)) held i)
  declare_sure slot t (Some value) h env w held i =
      found_sure p n head (kind_of_type t) (λ kind. then_do (value_of value env) (λ v. put_local slot kind v env)) w After (λ kind e.
      then_sure p n head (value_of value env) _ w (λ v u. H u) After (value_sure value (second_true (not (receiver && slot == 0)) (chk value).fits h) env w held i) (λ v u j.
      put_local_sure slot kind v env u (true_no (receiver && slot == 0) (first_true (not (receiver && slot == 0)) (chk value).fits h)) held j))

  leave_sure : (value : Option TypedExpr) → or_fits (λ e. (chk e).fits) value ≡ true → (env : Locals) (w : World) → Holds receiver this env → H w → S (leave value env) w After
  leave_sure None h env w held i = i
  leave_sure (Some value) h env w held i =
      then_sure p n head (value_of value env) _ w (λ v u. H u) After (value_sure value h env w held i) (λ v u j.
      found_sure p n head (kind_of_type value.ty) (λ kind. do_of (of_kind kind v) (λ x. Gives (Returned (Some x)))) u After (λ kind e. do_sure p n head (of_kind kind v) (λ x. Gives (Returned (Some x))) u After (λ x. j)))

  -- from locals on
  abbrev From : (Locals → Does Left) → Type 0
  From d = (env : Locals) (w : World) → Holds receiver this env → H w → S (d env) w After

  go_on_sure : (next : Locals → Does Left) → From next → (l : Left) (w : World) → After l w → S (go_on next l) w After
  go_on_sure next h (Goes env) w i = h env w (first_of i) (second_of i)
  go_on_sure next h (Breaks env) w i = i
  go_on_sure next h (Continues env) w i = i
  go_on_sure next h (Returned v) w i = i

  around_sure : (next : Locals → Does Left) → From next → (l : Left) (w : World) → After l w → S (around next l) w After
  around_sure next h (Goes env) w i = h env w (first_of i) (second_of i)
  around_sure next h (Breaks env) w i = i
  around_sure next h (Continues env) w i = h env w (first_of i) (second_of i)
  around_sure next h (Returned v) w i = i

  turns_sure : (k : ℕ) (test : Locals → Does Value) (change body : Locals → Does Left) → ((env : Locals) (w : World) → Holds receiver this env → H w → S (test env) w (λ v u. H u)) → From change → From body → From (turns k test change body)
  turns_sure zero test change body ht hc hb env w held i = tt
  turns_sure (suc k) test change body ht hc hb env w held i =
      let go = λ (after : Locals). then_do (change after) (go_on (turns k test change body)) in
      by_sure p n head (test env) (Ticks (then_do (body env) (around go))) (skip env) w H After (ht env w held i)
      (λ u j. tick_sure p n head receiver this own [] (then_do (body env) (around go)) u After j (λ v l.
      then_sure p n head (body env) (around go) v After After (hb env v held l) (λ left x m. around_sure go (λ e y held' o.
      then_sure p n head (change e) (go_on (turns k test change body)) y After After (hc e y held' o) (λ left z q. go_on_sure (turns k test change body) (turns_sure k test change body ht hc hb) left z q)) left x m)))
      (λ u j. (held, j))

  abbrev Turned : Type 0
  Turned = ℕ → Locals → Does Left

  abbrev pub IsMadeWell : Turned → Bool → Type 0
  IsMadeWell d b = b ≡ true → (k : ℕ) → From (d k)

  abbrev kind_does : TypedStmtKind → Turned
  kind_does = stmt_fold.fold-TypedStmtKind Turned Turned does_step (λ s. s.kind)

  abbrev step : TypedStmtKind-F Bool Bool → Bool
  step = stmt_step p head receiver

  abbrev kind_fits : TypedStmtKind → Bool
  kind_fits = stmt_fold.fold-TypedStmtKind Bool Bool step (λ s. s.kind)

  abbrev ok : TypedStmt → Bool
  ok = stmt_fits p head receiver

  abbrev WellKind : Type 0
  WellKind = (k : TypedStmtKind) × IsMadeWell (kind_does k) (kind_fits k)

  abbrev WellStmt : Type 0
  WellStmt = (s : TypedStmt) × IsMadeWell (does s) (ok s)

  order_sure : (ss : List WellStmt) → IsMadeWell (in_order (map does (map (λ e. e.0) ss))) (list_all (λ b. b) (map ok (map (λ e. e.0) ss)))
  order_sure [] h k env w held i = (held, i)
  order_sure (s ∷ ss) h k env w held i =
      then_sure p n head (does s.0 k env) (go_on (in_order (map does (map (λ e. e.0) ss)) k)) w After After (s.1 (first_true (ok s.0) (list_all (λ b. b) (map ok (map (λ e. e.0) ss))) h) k env w held i)
      (λ left u j. go_on_sure (in_order (map does (map (λ e. e.0) ss)) k) (order_sure ss (second_true (ok s.0) (list_all (λ b. b) (map ok (map (λ e. e.0) ss))) h) k) left u j)

  test_sure : (test : Option TypedExpr) → or_fits (λ e. (chk e).fits) test ≡ true → (env : Locals) (w : World) → Holds receiver this env → H w → S (test_of test env) w (λ v u. H u)
  test_sure None h env w held i = i
  test_sure (Some test) h env w held i = value_sure test h env w held i

  skip_sure : From skip
  skip_sure env w held i = (held, i)

  for_sure : (init change body : Turned) (test : Option TypedExpr) → or_fits (λ e. (chk e).fits) test ≡ true → ((k : ℕ) → From (init k)) → ((k : ℕ) → From (change k)) → ((k : ℕ) → From (body k)) → (k : ℕ) → From (λ env. then_do (init k env) (go_on (turns k (test_of test) (change k) (body k))))
  for_sure init change body test h hi hc hb k env w held i =
      then_sure p n head (init k env) (go_on (turns k (test_of test) (change k) (body k))) w After After (hi k env w held i) (λ left u j.
      go_on_sure (turns k (test_of test) (change k) (body k)) (turns_sure k (test_of test) (change k) (body k) (test_sure test h) (hc k) (hb k)) left u j)

  layer : (y : TypedStmtKind-F WellKind WellStmt) →
      IsMadeWell (does_step (stmt_fold.map-TypedStmtKind TypedStmtKind TypedStmt Turned Turned kind_does does (stmt_fold.map-TypedStmtKind WellKind WellStmt TypedStmtKind TypedStmt (λ e. e.0) (λ e. e.0) y)))
      (step (stmt_fold.map-TypedStmtKind TypedStmtKind TypedStmt Bool Bool kind_fits ok (stmt_fold.map-TypedStmtKind WellKind WellStmt TypedStmtKind TypedStmt (λ e. e.0) (λ e. e.0) y)))
  layer (stmt.Block block) h k = order_sure block h k
  layer stmt.Empty h k = skip_sure
  layer (stmt.Local slot t value) h k = declare_sure slot t value h
  layer (stmt.If test first None) h k =
      λ env w held i. by_sure p n head (value_of test env) (does first.0 k env) (skip env) w H After (value_sure test (first_true (chk test).fits (ok first.0 && true) h) env w held i)
      (λ u j. first.1 (first_true (ok first.0) true (second_true (chk test).fits (ok first.0 && true) h)) k env u held j) (λ u j. (held, j))
  layer (stmt.If test first (Some second)) h k =
      let both = second_true (chk test).fits (ok first.0 && ok second.0) h in
      λ env w held i. by_sure p n head (value_of test env) (does first.0 k env) (does second.0 k env) w H After (value_sure test (first_true (chk test).fits (ok first.0 && ok second.0) h) env w held i)
      (λ u j. first.1 (first_true (ok first.0) (ok second.0) both) k env u held j) (λ u j. second.1 (second_true (ok first.0) (ok second.0) both) k env u held j)
  layer (stmt.While test body) h k = turns_sure k (value_of test) skip (does body.0 k) (value_sure test (first_true (chk test).fits (ok body.0) h)) skip_sure (body.1 (second_true (chk test).fits (ok body.0) h) k)
  layer (stmt.For None test None body) h k =
      let t = or_fits (λ e. (chk e).fits) test in
      for_sure (λ k env. skip env) (λ k env. skip env) (does body.0) test (first_true t (ok body.0) h) (λ k. skip_sure) (λ k. skip_sure) (body.1 (second_true t (ok body.0) h)) k
  layer (stmt.For None test (Some change) body) h k =
      let t = or_fits (λ e. (chk e).fits) test in
      let rest = second_true t (ok change.0 && ok body.0) h in
      for_sure (λ k env. skip env) (does change.0) (does body.0) test (first_true t (ok change.0 && ok body.0) h) (λ k. skip_sure) (change.1 (first_true (ok change.0) (ok body.0) rest)) (body.1 (second_true (ok change.0) (ok body.0) rest)) k
  layer (stmt.For (Some init) test None body) h k =
      let t = or_fits (λ e. (chk e).fits) test in
      let rest = second_true (ok init.0) (t && ok body.0) h in
      for_sure (does init.0) (λ k env. skip env) (does body.0) test (first_true t (ok body.0) rest) (init.1 (first_true (ok init.0) (t && ok body.0) h)) (λ k. skip_sure) (body.1 (second_true t (ok body.0) rest)) k
  layer (stmt.For (Some init) test (Some change) body) h k =
      let t = or_fits (λ e. (chk e).fits) test in
      let rest = second_true (ok init.0) (t && (ok change.0 && ok body.0)) h in
      let last = second_true t (ok change.0 && ok body.0) rest in
      for_sure (does init.0) (does change.0) (does body.0) test (first_true t (ok change.0 && ok body.0) rest) (init.1 (first_true (ok init.0) (t && (ok change.0 && ok body.0)) h)) (change.1 (first_true (ok change.0) (ok body.0) last)) (body.1 (second_true (ok change.0) (ok body.0) last)) k
  layer stmt.Break h k = λ env w held i. (held, i)
  layer stmt.Continue h k = λ env w held i. (held, i)
  layer (stmt.Return value) h k = leave_sure value h
  layer (stmt.Assign left sign right) h k =
      λ env w held i. found_sure p n head (change_of sign) (λ change. assign change (meant left) (meant right) env) w After (λ change e. assign_sure change left right (first_true (is_target receiver (chk left)) (chk right).fits h) (second_true (is_target receiver (chk left)) (chk right).fits h) env w held i)
  layer (stmt.Bump left up) h k = λ env w held i. bump_sure (cond up Add Subtract) left h env w held i
  layer (stmt.Run value) h k = λ env w held i. then_sure p n head (value_of value env) (λ v. skip env) w (λ v u. H u) After (value_sure value h env w held i) (λ v u j. (held, j))

  pub does_well : (s : TypedStmt) → IsMadeWell (does s) (ok s)
  does_well = stmt_fold.ind-TypedStmt (λ k. IsMadeWell (kind_does k) (kind_fits k)) (λ s. IsMadeWell (does s) (ok s))
      (λ x y is. subst (λ (g : Turned × Bool). IsMadeWell g.0 g.1)
      (sym (both_are (stmt_fold.fold-roll-TypedStmtKind Turned Turned does_step (λ s. s.kind) x) (stmt_fold.fold-roll-TypedStmtKind Bool Bool step (λ s. s.kind) x)))
      (subst (λ (z : TypedStmtKind-F TypedStmtKind TypedStmt). IsMadeWell (does_step (stmt_fold.map-TypedStmtKind TypedStmtKind TypedStmt Turned Turned kind_does does z)) (step (stmt_fold.map-TypedStmtKind TypedStmtKind TypedStmt Bool Bool kind_fits ok z))) is (layer y)))
      (λ x y is. subst (λ (g : Turned × Bool). IsMadeWell g.0 g.1)
      (sym (both_are (stmt_fold.fold-roll-TypedStmt Turned Turned does_step (λ s. s.kind) x) (stmt_fold.fold-roll-TypedStmt Bool Bool step (λ s. s.kind) x)))
      (subst (λ (z : stmt.TypedStmt-F TypedStmtKind TypedStmt). IsMadeWell (kind_does z.kind) (kind_fits z.kind)) is y.kind.1))

  pub block_sure : (ss : List TypedStmt) → list_all ok ss ≡ true → (k : ℕ) → From (block_does ss k)
  block_sure [] h k env w held i = (held, i)
  block_sure (s ∷ ss) h k env w held i =
      then_sure p n head (does s k env) (go_on (block_does ss k)) w After After (does_well s (first_true (ok s) (list_all ok ss) h) k env w held i)
      (λ left u j. go_on_sure (block_does ss k) (block_sure ss (second_true (ok s) (list_all ok ss) h) k) left u j)
