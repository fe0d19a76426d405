-- The code of a statement does what the statement does.
use Rattle.std.proofs.Common.{◌≡◌, ℕ, zero, suc, ◌+◌, ◌-◌, ◌<◌, ◌≤◌, List, [], ◌∷◌, ◌++◌, length, map, Option, Some, None, refl, sym, ap, ◌∙◌, subst, arith, length-append}
use Rattle.std.specs.Prelude.{ℤ, pos, negsuc, option_and_then, Bool, true, false, ◌&&◌, cond, max, nat_eq, slice_get, slice_set, if◌then◌else◌}
use Rattle.std.specs.Option.{option_map}
use Rattle.std.proofs.lemmas.Bool.{lt-ltb}
use Rattle.std.proofs.lemmas.Option.{slice_get_within}
use Rattle.jp_pred.specs.declared.ty.Ty.{Ty}
use Rattle.jp_store.specs.declared.value.Value.{Value}
use Rattle.jp_store.specs.declared.value.Value.TheVariants.{Int, Long, Null, Ref, Text}
use Rattle.jp_store.specs.declared.value.Kind.{Kind}
use Rattle.jp_store.specs.declared.value.Kind.TheVariants.{Number, LongNumber, Reference}
use Rattle.jp_store.specs.declared.operator.BinaryOp.TheVariants.{Add}
use Rattle.jp_store.specs.declared.outcome.Outcome.{Outcome}
use Rattle.jp_store.specs.declared.outcome.Outcome.TheVariants.{Fine, Trap, Wrong}
use Rattle.jp_store.specs.Arith.{binary, is_kind, default_of, of_truth, width_of}
use Rattle.jp_store.specs.Classes.{Key}
use Rattle.jp_store.specs.Work.{Op, where_true, GetField as FieldRead, PutField as FieldWrite, GetStatic as StaticRead, PutStatic as StaticWrite, GetElem, PutElem}
use Rattle.jp_does.specs.Does.{Gives, Ticks, Works, Stuck, then_do, do_of, found}
use Rattle.jp_meaning.specs.declared.expr.TypedExpr.{TypedExpr}
use Rattle.jp_meaning.specs.declared.stmt.TypedStmt.{TypedStmt}
use Rattle.jp_meaning.specs.declared.stmt.TypedStmtKind.{TypedStmtKind, TypedStmtKind-F}
use Rattle.jp_meaning.specs.declared.stmt.TypedStmtKind.TheOpen as form
use Rattle.jp_meaning.specs.declared.stmt.TypedStmtKind.TheFolds.{ind-TypedStmt, fold-TypedStmtKind, fold-roll-TypedStmt, fold-roll-TypedStmtKind, map-TypedStmtKind}
use Rattle.jp_meaning.specs.Does.{Does}
use Rattle.jp_meaning.specs.Descriptors.{kind_of_type}
use Rattle.jp_meaning.specs.Signs.{Change, Becomes, Changes, change_of}
use Rattle.jp_meaning.specs.Expressions.{Locals, typed, local_value, by_truth, of_kind, Spot, Slot, FieldOf, StaticAt, ElementOf, Meant, meant, value_of}
use Rattle.jp_meaning.specs.Statements.{Left, Goes, Breaks, Continues, Returned, go_on, around, skip, turns, in_order, or_skip, test_of, put_local, read_spot, put_spot, leave, does_step, does, block_does}
use Rattle.jp_meaning.specs.Statements as source
use Rattle.jvm_table.specs.declared.frame.Frame.{Frame}
use Rattle.jvm_table.specs.declared.instr.Instr.TheVariants.{PushNull, PushInt, Load, Store, Increase, LoadElement, StoreElement, Dup, DupTwo, Binary, JumpTo, ReturnValue, ReturnVoid, OnConstant}
use Rattle.jvm_table.specs.declared.instr.Jump.TheVariants.{Always}
use Rattle.jvm_table.specs.declared.instr.ConstantUse.TheVariants.{PutStatic, PutField}
use Rattle.jvm_table.specs.Stack.{depth_of}
use Rattle.jvm_table.specs.Act.{Moves, Effects, NoRow, on_found, acted, act, pushed, then_push, stored, leaves_with, leaves_void, result_kind, where_so as where_row}
use Rattle.code_trace.proofs.Follow.{Gives_as}
use Rattle.code_asm.specs.Items.{Item, Plain, Branch, Mark}
use Rattle.gen_body.specs.Codes.{Codes, Place, LocalAt, FieldAt, ElementAt, Coded, SpotCodes, choice, coded}
use Rattle.gen_body.specs.Codes as code
use Rattle.gen_body.specs.Statements.{Part, Made, parts_of, copy_parts, get_place, put_place, push_default, loop, only_where, repeat, or_nothing, begin_loop, test_codes, in_row, made_step, made, block_code}
use Rattle.gen_body.specs.Statements as shape
use Rattle.gen_body.proofs.Values.{IsNarrow, IsShort, IsShortIf, types_short, binary_narrow}
use Rattle.gen_body.proofs.Going.{Setting, run, at, Standing, parted, Here, Held, Going, from_here, seq, stop, moves, works_on, ticks_on, fails, on_outcome, stored_here, increased_here}
use Rattle.gen_body.proofs.Blocks.{Room, at_row, has_push, push_row, dup_row, IsPushed, IsAt, IsOver, Tests, Runs, operand, push_last, typed_last, plain_runs}
use Rattle.gen_body.proofs.Conditions.{by_test, choice_run}
use Rattle.gen_body.proofs.Expressions.{parts_on, IsPlace, IsSpot, Spots, Sure, load_last, field_row, static_field_row, expr_sure}

-- the parts of a place take their places
depth_parts : (place : Place) (spot : Spot) (st : List Value) → IsPlace place spot → depth_of (parts_on spot st) ≡ parts_of place + depth_of st
depth_parts place (Slot slot kind) st h = let e : depth_of st ≡ 0 + depth_of st = omega arith in e ∙ ap (λ p. parts_of p + depth_of st) (sym h.0)
depth_parts place (FieldOf o key) st h = let e : depth_of (o ∷ st) ≡ 1 + depth_of st = omega (arith, h.1) in e ∙ ap (λ p. parts_of p + depth_of st) (sym h.0)
depth_parts place (StaticAt key) st h = let e : depth_of st ≡ 0 + depth_of st = omega arith in e ∙ ap (λ p. parts_of p + depth_of st) (sym h)
depth_parts place (ElementOf kind a i) st h = let e : depth_of (i ∷ a ∷ st) ≡ 2 + depth_of st = omega (arith, h.1, h.2) in e ∙ ap (λ p. parts_of p + depth_of st) (sym h.0)

module _ (w : Setting) where
  -- how a method leaves: without a value, or with one of a kind
  abbrev pub Leaves_as : Option Value → ℕ → Frame → Type 0
  Leaves_as None left f = (0 < left) × (run w f ≡ leaves_void (result_kind w.file w.method))
  Leaves_as (Some v) left f = (0 < left) × (kind : Kind) × (is_kind kind v ≡ true) × (run w f ≡ leaves_with (result_kind w.file w.method) kind v)

  -- after a statement: at its end, where a `break` or a `continue` goes, or at a return
  abbrev pub After : ℕ → ℕ → ℕ → List Value → ℕ → Left → ℕ → Frame → Type 0
  After to out back st b (Goes env) left f = (b ≤ left) × (f ≡ at w to env st)
  After to out back st b (Breaks env) left f = (b ≤ left) × (f ≡ at w (w.place out) env st)
  After to out back st b (Continues env) left f = (b ≤ left) × (f ≡ at w (w.place back) env st)
  After to out back st b (Returned v) left f = Leaves_as v left f

  abbrev pub Makes : ℕ → ℕ → List Item → ℕ → (Locals → Does Left) → Type 0
  Makes out back is need d = (pc to : ℕ) (env : Locals) (st : List Value) (b0 b : ℕ) → Standing w pc is to → length is + b ≤ b0 → Room w need st → Going w (After to out back st b) b0 (at w pc env st) (d env)

  -- the end of a statement
  pub over : (pc to out back : ℕ) (env : Locals) (st : List Value) (b c : ℕ) → pc ≡ to → b ≤ c → Going w (After to out back st b) c (at w pc env st) (Gives (Goes env))
  over pc to out back env st b c e le = stop w (After to out back st b) c (at w pc env st) (Goes env) (le, ap (λ k. at w k env st) e)

  less_after : (to out back : ℕ) (st : List Value) (b c : ℕ) → b ≤ c → (l : Left) (left : ℕ) (f : Frame) → After to out back st c l left f → After to out back st b l left f
  less_after to out back st b c le (Goes env) left f q = (omega (arith, le, q.0), q.1)
  less_after to out back st b c le (Breaks env) left f q = (omega (arith, le, q.0), q.1)
  less_after to out back st b c le (Continues env) left f q = (omega (arith, le, q.0), q.1)
  less_after to out back st b c le (Returned v) left f q = q

  -- an array and an index once more
  dup_two_row : (x y : Value) (k : ℕ) (env : Locals) (st : List Value) → IsNarrow x → IsNarrow y → Room w 4 st → act w.file w.method DupTwo (at w k env (y ∷ x ∷ st)) ≡ Moves (at w k env (y ∷ x ∷ y ∷ x ∷ st))
  dup_two_row x y k env st nx ny room =
      ap (λ j. where_row (nat_eq j 1 && nat_eq (width_of y) 1) (then_push x (at w k env st) (λ h. then_push y h (λ i. then_push x i (pushed y))))) nx
      ∙ ap (λ j. where_row (nat_eq j 1) (then_push x (at w k env st) (λ h. then_push y h (λ i. then_push x i (pushed y))))) ny
      ∙ ap (λ b. if b then then_push y (at w k env (x ∷ st)) (λ i. then_push x i (pushed y)) else NoRow) (has_push w x k env st nx (omega (arith, room)))
      ∙ ap (λ b. if b then then_push x (at w k env (y ∷ x ∷ st)) (pushed y) else NoRow) (has_push w y k env (x ∷ st) ny (omega (arith, room, nx)))
      ∙ ap (λ b. if b then pushed y (at w k env (x ∷ y ∷ x ∷ st)) else NoRow) (has_push w x k env (y ∷ x ∷ st) nx (omega (arith, room, nx, ny)))
      ∙ push_row w y k env (x ∷ y ∷ x ∷ st) ny (omega (arith, room, nx, ny))

  -- what is done to the store, and what follows with the answer on the stack
  pub typed_then : {B : Type 0} (R : B → ℕ → Frame → Type 0) (t : Ty) (op : Op) (go : Value → Does B) (to : ℕ) (env : Locals) (st : List Value) (c b : ℕ) (f : Frame) → (Held w f → Here w env) → 1 + b ≤ c → Room w 1 st → run w f ≡ Effects op true (at w to env st) → ((v : Value) (c : ℕ) → IsPushed w v st → b ≤ c → Going w R c (at w to env (v ∷ st)) (go v)) → Going w R c f (then_do (Works op (typed t)) go)
  typed_then R t op go to env st c b f keep le room e k =
      seq w (IsAt w to env st b) R go (λ v c f q. from_here w R c f (at w to env (v ∷ st)) (go v) q.1 (k v c q.2 q.0))
      (Works op (typed t)) c f (typed_last w t op to env st c b f keep le room e)

  -- the value of a place, behind its parts
  abbrev Reads_so : {B : Type 0} → (B → ℕ → Frame → Type 0) → Ty → Spot → (Value → Does B) → List Item → Place → Type 0
  Reads_so R t spot go rest place =
      (m to : ℕ) (env : Locals) (st : List Value) (c b : ℕ) → Standing w m (copy_parts place ++ (get_place place ++ rest)) to → length (copy_parts place ++ (get_place place ++ rest)) + b ≤ c → Room w (parts_of place + (parts_of place + 1)) st →
      ((x : Value) (m2 c2 : ℕ) → IsNarrow x → Standing w m2 rest to → length rest + b ≤ c2 → Going w R c2 (at w m2 env (x ∷ parts_on spot st)) (go x)) → Going w R c (at w m env (parts_on spot st)) (then_do (read_spot t spot env) go)

  reads_so : {B : Type 0} (R : B → ℕ → Frame → Type 0) (t : Ty) (spot : Spot) (go : Value → Does B) (rest : List Item) (place : Place) → IsPlace place spot → Reads_so R t spot go rest place
  reads_so R t (Slot slot kind) go rest place h = subst (Reads_so R t (Slot slot kind) go rest) (sym h.0) (λ m to env st c b s le room k.
      operand w R (Plain (Load kind slot) ∷ []) rest 1 (local_value slot kind) go (λ pc to env st b0 b s le room. load_last w kind h.1 slot pc to env st b0 b s le room) m to env st c b s le (omega (arith, room)) (λ v m2 c2 nv s2 le2. k v m2 c2 nv.0 s2 le2))
  reads_so R t (FieldOf o key) go rest place h = subst (Reads_so R t (FieldOf o key) go rest) (sym h.0) (λ m to env st c b s le room k.
      moves w R c (at w m env (o ∷ st)) (at w s.0 env (o ∷ o ∷ st)) (then_do (Works (FieldRead o key) (typed t)) go) (λ h. h) (omega (arith, le)) (at_row w Dup m s.0 env (o ∷ st) s.1 ∙ dup_row w o s.0 env st h.1 (omega (arith, room)))
      (typed_then R t (FieldRead o key) go s.2.1 env (o ∷ st) (c - 1) (length rest + b) (at w s.0 env (o ∷ o ∷ st)) (λ h. h) (omega (arith, le)) (omega (arith, room, h.1)) (field_row w key o s.0 to rest env (o ∷ st) s.2)
      (λ v c2 nv le2. k v s.2.1 c2 nv.0 s.2.4 le2)))
  reads_so R t (StaticAt key) go rest place h = subst (Reads_so R t (StaticAt key) go rest) (sym h) (λ m to env st c b s le room k.
      typed_then R t (StaticRead key) go s.1 env st c (length rest + b) (at w m env st) (λ h. h) (omega (arith, le)) (omega (arith, room)) (static_field_row w key m to rest env st s) (λ v c2 nv le2. k v s.1 c2 nv.0 s.4 le2))
  reads_so R t (ElementOf kind a i) go rest place h = subst (Reads_so R t (ElementOf kind a i) go rest) (sym h.0) (λ m to env st c b s le room k.
      moves w R c (at w m env (i ∷ a ∷ st)) (at w s.0 env (i ∷ a ∷ i ∷ a ∷ st)) (then_do (Works (GetElem kind a i) (typed t)) go) (λ h. h) (omega (arith, le)) (at_row w DupTwo m s.0 env (i ∷ a ∷ st) s.1 ∙ dup_two_row a i s.0 env st h.1 h.2 (omega (arith, room)))
      (typed_then R t (GetElem kind a i) go s.2.0 env (i ∷ a ∷ st) (c - 1) (length rest + b) (at w s.0 env (i ∷ a ∷ i ∷ a ∷ st)) (λ h. h) (omega (arith, le)) (omega (arith, room, h.1, h.2)) (at_row w (LoadElement kind) s.0 s.2.0 env (i ∷ a ∷ i ∷ a ∷ st) s.2.1)
      (λ v c2 nv le2. k v s.2.0 c2 nv.0 s.2.2 le2)))

  -- a local gets a value
  pub store_last : (kind : Kind) (slot : ℕ) (v : Value) (m to out back : ℕ) (env : Locals) (st : List Value) (c b : ℕ) → Standing w m (Plain (Store kind slot) ∷ []) to → 1 + b ≤ c → Going w (After to out back st b) c (at w m env (v ∷ st)) (put_local slot kind v env)
  store_last kind slot v m to out back env st c b s le = by_kind (is_kind kind v) (at_row w (Store kind slot) m s.0 env (v ∷ st) s.1) where
    by_slot : (o : Option (Option Value)) → slice_get env slot ≡ o → run w (at w m env (v ∷ st)) ≡ stored slot v (at w s.0 env st) → Going w (After to out back st b) c (at w m env (v ∷ st)) (found o (λ old. Gives (Goes (slice_set env slot (Some v)))))
    by_slot None h e = λ held. tt
    by_slot (Some old) h e =
        let new = slice_set env slot (Some v) in
        moves w (After to out back st b) c (at w m env (v ∷ st)) (at w s.0 new st) (Gives (Goes new)) (stored_here w kind slot env (Some v) s.3) (omega (arith, le))
        (e ∙ ap (λ x. where_row x (Moves (at w s.0 new st))) (lt-ltb slot (length env) (slice_get_within env slot old h)))
        (over s.0 to out back new st b (c - 1) s.2 (omega (arith, le)))

    by_kind : (x : Bool) → run w (at w m env (v ∷ st)) ≡ where_row x (stored slot v (at w s.0 env st)) → Going w (After to out back st b) c (at w m env (v ∷ st)) (do_of (where_true x (Fine v)) (λ u. found (slice_get env slot) (λ old. Gives (Goes (slice_set env slot (Some u))))))
    by_kind true e = by_slot (slice_get env slot) refl e
    by_kind false e = λ held. tt

  -- something is done to the store, and the statement is over
  put_over : (op : Op) (to out back : ℕ) (env : Locals) (st : List Value) (c b : ℕ) (f : Frame) → (Held w f → Here w env) → 1 + b ≤ c → run w f ≡ Effects op false (at w to env st) → Going w (After to out back st b) c f (Works op (λ done. skip env))
  put_over op to out back env st c b f keep le e =
      works_on w (After to out back st b) c f (at w to env st) op false (λ done. skip env) keep (omega (arith, le)) e (λ v may. over to to out back env st b (c - 1) refl (omega (arith, le)))

  -- a place gets a value
  abbrev Puts_so : Spot → Value → ℕ → ℕ → Place → Type 0
  Puts_so spot v out back place =
      (m to : ℕ) (env : Locals) (st : List Value) (c b : ℕ) → Standing w m (put_place place) to → length (put_place place) + b ≤ c → Going w (After to out back st b) c (at w m env (v ∷ parts_on spot st)) (put_spot spot v env)

  puts_so : (spot : Spot) (v : Value) (out back : ℕ) (place : Place) → IsPlace place spot → Puts_so spot v out back place
  puts_so (Slot slot kind) v out back place h = subst (Puts_so (Slot slot kind) v out back) (sym h.0) (λ m to env st c b s le. store_last kind slot v m to out back env st c b s le)
  puts_so (FieldOf o key) v out back place h = subst (Puts_so (FieldOf o key) v out back) (sym h.0) (λ m to env st c b s le.
      put_over (FieldWrite o key v) to out back env st c b (at w m env (v ∷ o ∷ st)) (λ h. h) le
      (at_row w (OnConstant PutField s.0) m s.1 env (v ∷ o ∷ st) s.2 ∙ ap (λ (x : Option Key). on_found x (λ key. Effects (FieldWrite o key v) false (at w s.1 env st))) s.3 ∙ ap (λ k. Effects (FieldWrite o key v) false (at w k env st)) s.4))
  puts_so (StaticAt key) v out back place h = subst (Puts_so (StaticAt key) v out back) (sym h) (λ m to env st c b s le.
      put_over (StaticWrite key v) to out back env st c b (at w m env (v ∷ st)) (λ h. h) le
      (at_row w (OnConstant PutStatic s.0) m s.1 env (v ∷ st) s.2 ∙ ap (λ (x : Option Key). on_found x (λ key. Effects (StaticWrite key v) false (at w s.1 env st))) s.3 ∙ ap (λ k. Effects (StaticWrite key v) false (at w k env st)) s.4))
  puts_so (ElementOf kind a i) v out back place h = subst (Puts_so (ElementOf kind a i) v out back) (sym h.0) (λ m to env st c b s le.
      put_over (PutElem kind a i v) to out back env st c b (at w m env (v ∷ i ∷ a ∷ st)) (λ h. h) le
      (at_row w (StoreElement kind) m s.0 env (v ∷ i ∷ a ∷ st) s.1 ∙ ap (λ k. Effects (PutElem kind a i v) false (at w k env st)) s.2))

  -- the parts of what is assigned to, and what follows
  spot_then : {B : Type 0} (R : B → ℕ → Frame → Type 0) (k : SpotCodes) (rest : List Item) (d : Locals → Does Spot) (go : Spot → Does B) → Spots w k d → (pc to : ℕ) (env : Locals) (st : List Value) (b0 b : ℕ) → Standing w pc (k.items ++ rest) to → length (k.items ++ rest) + b ≤ b0 → Room w k.need st → ((spot : Spot) (m c : ℕ) → IsPlace k.place spot → Standing w m rest to → length rest + b ≤ c → Going w R c (at w m env (parts_on spot st)) (go spot)) → Going w R b0 (at w pc env st) (then_do (d env) go)
  spot_then R k rest d go h pc to env st b0 b s le room next =
      let p = parted w k.items rest pc to s in
      let n = length-append k.items rest in
      seq w (IsSpot w k.place p.mid env st (length rest + b)) R go
      (λ spot c f q. from_here w R c f (at w p.mid env (parts_on spot st)) (go spot) q.1 (next spot p.mid c q.2 p.back q.0))
      (d env) b0 (at w pc env st) (h pc p.mid env st b0 (length rest + b) p.front (omega (arith, n, le)) room)

  -- what an operation comes to is pushed, and what follows
  outcome_then : {B : Type 0} (R : B → ℕ → Frame → Type 0) (r : Outcome Value) (go : Value → Does B) (k : ℕ) (env : Locals) (st : List Value) (c : ℕ) (f : Frame) → (Held w f → Here w env) → 1 ≤ c → Gives_as IsNarrow r → Room w 1 st → run w f ≡ acted r (λ v. pushed v (at w k env st)) → ((v : Value) → IsNarrow v → Going w R (c - 1) (at w k env (v ∷ st)) (go v)) → Going w R c f (do_of r go)
  outcome_then R r go k env st c f keep le nr room e next =
      on_outcome w IsNarrow R c f r (λ v. pushed v (at w k env st)) go le e nr
      (λ v nv g. moves w R c f (at w k env (v ∷ st)) (go v) keep le (g ∙ push_row w v k env st nv room) (next v nv))

  assign_makes : (o : Option Change) (m1 m2 : Meant) (k1 k2 : Coded) → Sure w m1 k1 → Sure w m2 k2 → (n out back : ℕ) → Makes out back (shape.assign o k1 k2 n out back).items (shape.assign o k1 k2 n out back).need (λ env. found o (λ change. source.assign change m1 m2 env))
  assign_makes None m1 m2 k1 k2 h1 h2 n out back pc to env st b0 b s le room = λ held. tt
  assign_makes (Some Becomes) m1 m2 k1 k2 h1 h2 n out back pc to env st b0 b s le room =
      let k = k1.spot n in let c = k2.codes k.next in
      let R : Left → ℕ → Frame → Type 0 = After to out back st b in
      spot_then R k (c.value ++ put_place k.place) m1.spot (λ spot. then_do (m2.value env) (λ v. put_spot spot v env)) (h1.spot n) pc to env st b0 b s le (omega (arith, room)) (λ spot m c1 is s1 le1.
      let depth = depth_parts k.place spot st is in
      operand w R c.value (put_place k.place) c.need m2.value (λ v. put_spot spot v env) (h2.value k.next).value m to env (parts_on spot st) c1 b s1 le1 (omega (arith, room, depth)) (λ v m2 c2 nv s2 le2.
      puts_so spot v out back k.place is m2 to env st c2 b s2 le2))
  assign_makes (Some (Changes op)) m1 m2 k1 k2 h1 h2 n out back pc to env st b0 b s le room =
      let k = k1.spot n in let c = k2.codes k.next in
      let R : Left → ℕ → Frame → Type 0 = After to out back st b in
      let last : List Item = Plain (Binary op) ∷ put_place k.place in
      spot_then R k (copy_parts k.place ++ (get_place k.place ++ (c.value ++ last))) m1.spot (λ spot. then_do (read_spot m1.ty spot env) (λ x. then_do (m2.value env) (λ y. do_of (binary op x y) (λ v. put_spot spot v env)))) (h1.spot n) pc to env st b0 b s le (omega (arith, room)) (λ spot m c1 is s1 le1.
      let depth = depth_parts k.place spot st is in
      reads_so R m1.ty spot (λ x. then_do (m2.value env) (λ y. do_of (binary op x y) (λ v. put_spot spot v env))) (c.value ++ last) k.place is m to env st c1 b s1 le1 (omega (arith, room)) (λ x p2 c2 nx s2 le2.
      operand w R c.value last c.need m2.value (λ y. do_of (binary op x y) (λ v. put_spot spot v env)) (h2.value k.next).value p2 to env (x ∷ parts_on spot st) c2 b s2 le2 (omega (arith, room, depth, nx)) (λ y p3 c3 ny s3 le3.
      outcome_then R (binary op x y) (λ v. put_spot spot v env) s3.0 env (parts_on spot st) c3 (at w p3 env (y ∷ x ∷ parts_on spot st)) (λ h. h) (omega (arith, le3)) (binary_narrow op x y) (omega (arith, room, depth))
      (at_row w (Binary op) p3 s3.0 env (y ∷ x ∷ parts_on spot st) s3.1) (λ v nv.
      puts_so spot v out back k.place is s3.0 to env st (c3 - 1) b s3.2 (omega (arith, le3))))))

  -- a local that is one more or less
  increase_last : (up : Bool) (slot m to out back : ℕ) (env : Locals) (st : List Value) (c b : ℕ) → Standing w m (Plain (Increase slot (cond up (pos 1) (negsuc 0))) ∷ []) to → 1 + b ≤ c → Going w (After to out back st b) c (at w m env st) (then_do (local_value slot Number env) (λ x. do_of (binary (shape.step_of up) x (Int (pos 1))) (λ v. put_local slot Number v env)))
  increase_last up slot m to out back env st c b s le = by_slot (slice_get env slot) refl (at_row w (Increase slot (cond up (pos 1) (negsuc 0))) m s.0 env st s.1) where
    one_step : (up : Bool) (n : ℤ) → binary Add (Int n) (Int (cond up (pos 1) (negsuc 0))) ≡ binary (shape.step_of up) (Int n) (Int (pos 1))
    one_step true n = refl
    one_step false n = refl

    by_number : (old : Option Value) → slice_get env slot ≡ Some old → (n : ℤ) → run w (at w m env st) ≡ acted (binary Add (Int n) (Int (cond up (pos 1) (negsuc 0)))) (λ v. stored slot v (at w s.0 env st)) → (r : Outcome Value) → binary (shape.step_of up) (Int n) (Int (pos 1)) ≡ r → Gives_as (λ v. is_kind Number v ≡ true) r → Going w (After to out back st b) c (at w m env st) (do_of r (λ v. do_of (of_kind Number v) (λ u. found (Some old) (λ old. Gives (Goes (slice_set env slot (Some u)))))))
    by_number old h n e (Trap kind) r k = fails w (After to out back st b) c (at w m env st) kind (omega (arith, le)) (e ∙ ap (λ x. acted x (λ v. stored slot v (at w s.0 env st))) (one_step up n ∙ r))
    by_number old h n e Wrong r k = λ held. tt
    by_number old h n e (Fine v) r k =
        let new = slice_set env slot (Some v) in
        subst (λ x. Going w (After to out back st b) c (at w m env st) (do_of (where_true x (Fine v)) (λ u. Gives (Goes (slice_set env slot (Some u)))))) (sym k)
        (moves w (After to out back st b) c (at w m env st) (at w s.0 new st) (Gives (Goes new)) (increased_here w slot (cond up (pos 1) (negsuc 0)) env (Some v) s.3) (omega (arith, le))
        (e ∙ ap (λ x. acted x (λ v. stored slot v (at w s.0 env st))) (one_step up n ∙ r) ∙ ap (λ x. where_row x (Moves (at w s.0 new st))) (lt-ltb slot (length env) (slice_get_within env slot old h)))
        (over s.0 to out back new st b (c - 1) s.2 (omega (arith, le))))

    numbered : (up : Bool) (n : ℤ) → Gives_as (λ v. is_kind Number v ≡ true) (binary (shape.step_of up) (Int n) (Int (pos 1)))
    numbered true n = refl
    numbered false n = refl

    by_value : (v : Value) → slice_get env slot ≡ Some (Some v) → run w (at w m env st) ≡ acted (binary Add v (Int (cond up (pos 1) (negsuc 0)))) (λ u. stored slot u (at w s.0 env st)) → Going w (After to out back st b) c (at w m env st) (then_do (do_of (of_kind Number v) Gives) (λ x. do_of (binary (shape.step_of up) x (Int (pos 1))) (λ v. do_of (of_kind Number v) (λ u. found (Some (Some v)) (λ old. Gives (Goes (slice_set env slot (Some u))))))))
    by_value (Int n) h e = by_number (Some (Int n)) h n e (binary (shape.step_of up) (Int n) (Int (pos 1))) refl (numbered up n)
    by_value (Long n) h e = λ held. tt
    by_value Null h e = λ held. tt
    by_value (Ref o) h e = λ held. tt
    by_value (Text t) h e = λ held. tt

    by_slot : (y : Option (Option Value)) → slice_get env slot ≡ y → run w (at w m env st) ≡ on_found (option_and_then (λ v. v) y) (λ v. acted (binary Add v (Int (cond up (pos 1) (negsuc 0)))) (λ u. stored slot u (at w s.0 env st))) → Going w (After to out back st b) c (at w m env st) (then_do (found (option_and_then (λ v. v) y) (λ v. do_of (of_kind Number v) Gives)) (λ x. do_of (binary (shape.step_of up) x (Int (pos 1))) (λ v. do_of (of_kind Number v) (λ u. found y (λ old. Gives (Goes (slice_set env slot (Some u))))))))
    by_slot None h e = λ held. tt
    by_slot (Some None) h e = λ held. tt
    by_slot (Some (Some v)) h e = by_value v h e

  -- the same in any place
  abbrev Bumps_so : Bool → Ty → Spot → ℕ → ℕ → Place → Type 0
  Bumps_so up t spot out back place =
      (m to : ℕ) (env : Locals) (st : List Value) (c b : ℕ) → Standing w m (shape.bump_place up place) to → length (shape.bump_place up place) + b ≤ c → Room w (parts_of place + (parts_of place + 2)) st → Going w (After to out back st b) c (at w m env (parts_on spot st)) (then_do (read_spot t spot env) (λ x. do_of (binary (shape.step_of up) x (Int (pos 1))) (λ v. put_spot spot v env)))

  steps_so : (up : Bool) (t : Ty) (spot : Spot) (place : Place) → IsPlace place spot → (m to out back : ℕ) (env : Locals) (st : List Value) (c b : ℕ) → Standing w m (shape.step_place up place) to → length (shape.step_place up place) + b ≤ c → Room w (parts_of place + (parts_of place + 2)) st → Going w (After to out back st b) c (at w m env (parts_on spot st)) (then_do (read_spot t spot env) (λ x. do_of (binary (shape.step_of up) x (Int (pos 1))) (λ v. put_spot spot v env)))
  steps_so up t spot place is m to out back env st c b s le room =
      let R : Left → ℕ → Frame → Type 0 = After to out back st b in
      let op = shape.step_of up in
      let last : List Item = Plain (PushInt (pos 1)) ∷ Plain (Binary op) ∷ put_place place in
      let depth = depth_parts place spot st is in
      reads_so R t spot (λ x. do_of (binary op x (Int (pos 1))) (λ v. put_spot spot v env)) last place is m to env st c b s le (omega (arith, room)) (λ x p2 c2 nx s2 le2.
      moves w R c2 (at w p2 env (x ∷ parts_on spot st)) (at w s2.0 env (Int (pos 1) ∷ x ∷ parts_on spot st)) (do_of (binary op x (Int (pos 1))) (λ v. put_spot spot v env)) (λ h. h) (omega (arith, le2))
      (at_row w (PushInt (pos 1)) p2 s2.0 env (x ∷ parts_on spot st) s2.1 ∙ push_row w (Int (pos 1)) s2.0 env (x ∷ parts_on spot st) refl (omega (arith, room, depth, nx)))
      (outcome_then R (binary op x (Int (pos 1))) (λ v. put_spot spot v env) s2.2.0 env (parts_on spot st) (c2 - 1) (at w s2.0 env (Int (pos 1) ∷ x ∷ parts_on spot st)) (λ h. h) (omega (arith, le2)) (binary_narrow op x (Int (pos 1))) (omega (arith, room, depth))
      (at_row w (Binary op) s2.0 s2.2.0 env (Int (pos 1) ∷ x ∷ parts_on spot st) s2.2.1) (λ v nv.
      puts_so spot v out back place is s2.2.0 to env st (c2 - 1 - 1) b s2.2.2 (omega (arith, le2)))))

  bumps_so : (up : Bool) (t : Ty) (spot : Spot) (out back : ℕ) (place : Place) → IsPlace place spot → Bumps_so up t spot out back place
  bumps_so up t (Slot slot Number) out back place h = subst (Bumps_so up t (Slot slot Number) out back) (sym h.0) (λ m to env st c b s le room. increase_last up slot m to out back env st c b s le)
  bumps_so up t (Slot slot LongNumber) out back place h = absurd h.1
  bumps_so up t (Slot slot Reference) out back place h = subst (Bumps_so up t (Slot slot Reference) out back) (sym h.0) (λ m to env st c b s le room. steps_so up t (Slot slot Reference) (LocalAt slot Reference) (refl, tt) m to out back env st c b s le room)
  bumps_so up t (FieldOf o key) out back place h = subst (Bumps_so up t (FieldOf o key) out back) (sym h.0) (λ m to env st c b s le room. steps_so up t (FieldOf o key) (FieldAt key) (refl, h.1) m to out back env st c b s le room)
  bumps_so up t (StaticAt key) out back place h = subst (Bumps_so up t (StaticAt key) out back) (sym h) (λ m to env st c b s le room. steps_so up t (StaticAt key) (code.StaticAt key) refl m to out back env st c b s le room)
  bumps_so up t (ElementOf kind a i) out back place h = subst (Bumps_so up t (ElementOf kind a i) out back) (sym h.0) (λ m to env st c b s le room. steps_so up t (ElementOf kind a i) (ElementAt kind) (refl, h.1, h.2) m to out back env st c b s le room)

  bump_makes : (up : Bool) (m : Meant) (k : Coded) → Sure w m k → (n out back : ℕ) → Makes out back (shape.bump up k n out back).items (shape.bump up k n out back).need (λ env. source.bump (shape.step_of up) m env)
  bump_makes up m k1 h n out back pc to env st b0 b s le room =
      let k = k1.spot n in
      spot_then (After to out back st b) k (shape.bump_place up k.place) m.spot (λ spot. then_do (read_spot m.ty spot env) (λ x. do_of (binary (shape.step_of up) x (Int (pos 1))) (λ v. put_spot spot v env))) (h.spot n) pc to env st b0 b s le (omega (arith, room)) (λ spot m1 c1 is s1 le1.
      bumps_so up m.ty spot out back k.place is m1 to env st c1 b s1 le1 (omega (arith, room)))

  -- a declared local
  default_last : (kind : Kind) → IsShort kind → (pc to : ℕ) (rest : List Item) (env : Locals) (st : List Value) (c b : ℕ) → Standing w pc (push_default kind ∷ rest) to → Room w 1 st → {B : Type 0} (R : B → ℕ → Frame → Type 0) (d : Does B) → suc (length rest) + b ≤ c → ((m : ℕ) → Standing w m rest to → Going w R (c - 1) (at w m env (default_of kind ∷ st)) d) → Going w R c (at w pc env st) d
  default_last Number short pc to rest env st c b s room R d le k =
      moves w R c (at w pc env st) (at w s.0 env (Int (pos 0) ∷ st)) d (λ h. h) (omega (arith, le)) (at_row w (PushInt (pos 0)) pc s.0 env st s.1 ∙ push_row w (Int (pos 0)) s.0 env st refl room) (k s.0 s.2)
  default_last LongNumber short pc to rest env st c b s room R d le k = absurd short
  default_last Reference short pc to rest env st c b s room R d le k =
      moves w R c (at w pc env st) (at w s.0 env (Null ∷ st)) d (λ h. h) (omega (arith, le)) (at_row w PushNull pc s.0 env st s.1 ∙ push_row w Null s.0 env st refl room) (k s.0 s.2)

  declare_makes : (t : Ty) (slot : ℕ) (value : Option TypedExpr) (n out back : ℕ) → Makes out back (shape.declare (kind_of_type t) slot (option_map coded value) n out back).items (shape.declare (kind_of_type t) slot (option_map coded value) n out back).need (source.declare slot t value)
  declare_makes t slot None n out back = by_kind (kind_of_type t) (types_short t) where
    by_kind : (o : Option Kind) → IsShortIf o → Makes out back (shape.declare o slot None n out back).items (shape.declare o slot None n out back).need (λ env. found o (λ kind. put_local slot kind (default_of kind) env))
    by_kind None short pc to env st b0 b s le room = λ held. tt
    by_kind (Some kind) short pc to env st b0 b s le room =
        default_last kind short pc to (Plain (Store kind slot) ∷ []) env st b0 b s room (After to out back st b) (put_local slot kind (default_of kind) env) le
        (λ m s1. store_last kind slot (default_of kind) m to out back env st (b0 - 1) b s1 (omega (arith, le)))
  declare_makes t slot (Some value) n out back = by_kind (kind_of_type t) where
    by_kind : (o : Option Kind) → Makes out back (shape.declare o slot (Some (coded value)) n out back).items (shape.declare o slot (Some (coded value)) n out back).need (λ env. found o (λ kind. then_do (value_of value env) (λ v. put_local slot kind v env)))
    by_kind None pc to env st b0 b s le room = λ held. tt
    by_kind (Some kind) pc to env st b0 b s le room =
        let c = (coded value).codes n in
        operand w (After to out back st b) c.value (Plain (Store kind slot) ∷ []) c.need (value_of value) (λ v. put_local slot kind v env) ((expr_sure w value).value n).value pc to env st b0 b s le room (λ v m c1 nv s1 le1.
        store_last kind slot v m to out back env st c1 b s1 le1)

  -- one after the other
  seq_run : (out back : ℕ) (ca cb : List Item) (na nb need : ℕ) (da db : Locals → Does Left) → na ≤ need → nb ≤ need → Makes out back ca na da → Makes out back cb nb db → Makes out back (ca ++ cb) need (λ env. then_do (da env) (go_on db))
  seq_run out back ca cb na nb need da db la lb ha hb pc to env st b0 b s le room =
      let p = parted w ca cb pc to s in
      let n = length-append ca cb in
      let R : Left → ℕ → Frame → Type 0 = After to out back st b in
      seq w (After p.mid out back st (length cb + b)) R (go_on db) (next p.mid p.back) (da env) b0 (at w pc env st) (ha pc p.mid env st b0 (length cb + b) p.front (omega (arith, n, le)) (omega (arith, la, room))) where
        next : (m : ℕ) → Standing w m cb to → (l : Left) (c : ℕ) (f : Frame) → After m out back st (length cb + b) l c f → Going w (After to out back st b) c f (go_on db l)
        next m s2 (Goes e) c f q = from_here w (After to out back st b) c f (at w m e st) (db e) q.1 (hb m to e st c b s2 q.0 (omega (arith, lb, room)))
        next m s2 (Breaks e) c f q = stop w (After to out back st b) c f (Breaks e) (omega (arith, q.0), q.1)
        next m s2 (Continues e) c f q = stop w (After to out back st b) c f (Continues e) (omega (arith, q.0), q.1)
        next m s2 (Returned v) c f q = stop w (After to out back st b) c f (Returned v) q

  left_over : (out back : ℕ) (st : List Value) (m to b : ℕ) (x : Left) (c : ℕ) (f : Frame) → ((env : Locals) (st : List Value) → run w (at w m env st) ≡ Moves (at w to env st)) → After m out back st (1 + b) x c f → Going w (After to out back st b) c f (Gives x)
  left_over out back st m to b (Goes env) c f e q =
      from_here w (After to out back st b) c f (at w m env st) (Gives (Goes env)) q.1
      (moves w (After to out back st b) c (at w m env st) (at w to env st) (Gives (Goes env)) (λ h. h) (omega (arith, q.0)) (e env st) (over to to out back env st b (c - 1) refl (omega (arith, q.0))))
  left_over out back st m to b (Breaks env) c f e q = stop w (After to out back st b) c f (Breaks env) (omega (arith, q.0), q.1)
  left_over out back st m to b (Continues env) c f e q = stop w (After to out back st b) c f (Continues env) (omega (arith, q.0), q.1)
  left_over out back st m to b (Returned v) c f e q = stop w (After to out back st b) c f (Returned v) q

  -- where a test is true
  where_run : (out back : ℕ) (t : Bool → ℕ → List Item) (ca : List Item) (nt na need : ℕ) (dt : Locals → Does Value) (da : Locals → Does Left) (n : ℕ) → nt ≤ need → na ≤ need → Tests w t nt dt → Makes out back ca na da → Makes out back (only_where t ca n) need (λ env. by_truth (dt env) (da env) (skip env))
  where_run out back t ca nt na need dt da n lt la ht ha pc to env st b0 b s le room =
      let R : Left → ℕ → Frame → Type 0 = After to out back st b in
      let l = length-append ca (Mark n ∷ []) in
      by_test w R t (ca ++ Mark n ∷ []) nt dt (da env) (skip env) ht false n pc to env st b0 b s le (omega (arith, lt, room))
      (λ m c f s1 le1 e keep.
      let p = parted w ca (Mark n ∷ []) m to s1 in
      moves w R c f (at w m env st) (da env) keep (omega (arith, le1)) e
      (subst (λ z. Going w (After z out back st b) (c - 1) (at w m env st) (da env)) p.back.1 (ha m p.mid env st (c - 1) b p.front (omega (arith, l, le1)) (omega (arith, la, room)))))
      (λ m c f s1 le1 e keep.
      let p = parted w ca (Mark n ∷ []) m to s1 in
      moves w R c f (at w (w.place n) env st) (skip env) keep (omega (arith, le1)) e
      (over (w.place n) to out back env st b (c - 1) (p.back.0 ∙ p.back.1) (omega (arith, le1))))

  -- a loop
  module _ (out back : ℕ) (t : Bool → ℕ → List Item) (bs cs : List Item) (nt nb nc need : ℕ) (test : Locals → Does Value) (body change : Locals → Does Left) (n : ℕ) (size : length (loop t bs cs n) ≤ w.more) (lt : nt ≤ need) (lb : nb ≤ need) (lc : nc ≤ need) (ht : Tests w t nt test) (hb : Makes (n + 1) (n + 2) bs nb body) (hc : Makes out back cs nc change) where
    abbrev back_to : List Item
    back_to = Branch Always n ∷ Mark (n + 1) ∷ []

    abbrev behind_body : List Item
    behind_body = Mark (n + 2) ∷ (cs ++ back_to)

    abbrev whole : List Item
    whole = loop t bs cs n

    -- after a change
    after_change : (k m to pc : ℕ) (st : List Value) (b : ℕ) → Standing w m back_to to → w.place n ≡ pc → ((env : Locals) (c : ℕ) → length whole + b ≤ c → Going w (After to out back st b) c (at w pc env st) (turns k test change body env)) → (l : Left) (c : ℕ) (f : Frame) → After m out back st (1 + (length whole + b)) l c f → Going w (After to out back st b) c f (go_on (turns k test change body) l)
    after_change k m to pc st b s z rec (Goes env) c f q =
        from_here w (After to out back st b) c f (at w m env st) (turns k test change body env) q.1
        (moves w (After to out back st b) c (at w m env st) (at w pc env st) (turns k test change body env) (λ h. h) (omega (arith, q.0)) (at_row w (JumpTo Always (w.place n)) m s.0 env st s.1 ∙ ap (λ k. Moves (at w k env st)) z)
        (rec env (c - 1) (omega (arith, q.0))))
    after_change k m to pc st b s z rec (Breaks env) c f q = stop w (After to out back st b) c f (Breaks env) (omega (arith, q.0), q.1)
    after_change k m to pc st b s z rec (Continues env) c f q = stop w (After to out back st b) c f (Continues env) (omega (arith, q.0), q.1)
    after_change k m to pc st b s z rec (Returned v) c f q = stop w (After to out back st b) c f (Returned v) q

    -- a change, and the next turn
    change_then : (k m to pc : ℕ) (env : Locals) (st : List Value) (b c : ℕ) → Standing w m (cs ++ back_to) to → w.place n ≡ pc → Room w need st → ((env : Locals) (c : ℕ) → length whole + b ≤ c → Going w (After to out back st b) c (at w pc env st) (turns k test change body env)) → length cs + (1 + (length whole + b)) ≤ c → Going w (After to out back st b) c (at w m env st) (then_do (change env) (go_on (turns k test change body)))
    change_then k m to pc env st b c s z room rec le =
        let p = parted w cs back_to m to s in
        seq w (After p.mid out back st (1 + (length whole + b))) (After to out back st b) (go_on (turns k test change body)) (after_change k p.mid to pc st b p.back z rec) (change env) c (at w m env st)
        (hc m p.mid env st c (1 + (length whole + b)) p.front le (omega (arith, lc, room)))

    -- after a body
    after_body : (k m to pc : ℕ) (st : List Value) (b : ℕ) → Standing w m behind_body to → w.place n ≡ pc → Room w need st → ((env : Locals) (c : ℕ) → length whole + b ≤ c → Going w (After to out back st b) c (at w pc env st) (turns k test change body env)) → (l : Left) (c : ℕ) (f : Frame) → After m (n + 1) (n + 2) st (length cs + (1 + (length whole + b))) l c f → Going w (After to out back st b) c f (around (λ after. then_do (change after) (go_on (turns k test change body))) l)
    after_body k m to pc st b s z room rec (Goes env) c f q =
        from_here w (After to out back st b) c f (at w m env st) (then_do (change env) (go_on (turns k test change body))) q.1 (change_then k m to pc env st b c s.1 z room rec q.0)
    after_body k m to pc st b s z room rec (Breaks env) c f q =
        let p = parted w cs back_to m to s.1 in
        from_here w (After to out back st b) c f (at w (w.place (n + 1)) env st) (skip env) q.1 (over (w.place (n + 1)) to out back env st b c (p.back.2.0 ∙ p.back.2.1) (omega (arith, q.0)))
    after_body k m to pc st b s z room rec (Continues env) c f q =
        from_here w (After to out back st b) c f (at w m env st) (then_do (change env) (go_on (turns k test change body))) (q.1 ∙ ap (λ k. at w k env st) s.0) (change_then k m to pc env st b c s.1 z room rec q.0)
    after_body k m to pc st b s z room rec (Returned v) c f q = stop w (After to out back st b) c f (Returned v) q

    pub turns_run : (k : ℕ) → Makes out back whole need (turns k test change body)
    turns_run zero pc to env st b0 b s le room = λ held. tt
    turns_run (suc k) pc to env st b0 b s le room =
        let R : Left → ℕ → Frame → Type 0 = After to out back st b in
        let l1 = length-append (t false (n + 1)) (bs ++ behind_body) in
        let l2 = length-append bs behind_body in
        let l3 = length-append cs back_to in
        let go = around (λ after. then_do (change after) (go_on (turns k test change body))) in
        let rec = turns_run k in
        by_test w R t (bs ++ behind_body) nt test (Ticks (then_do (body env) go)) (skip env) ht false (n + 1) pc to env st b0 b s.1 (omega (arith, le)) (omega (arith, lt, room))
        (λ m c f s1 le1 e keep.
        let p = parted w bs behind_body m to s1 in
        ticks_on w R c f (at w m env st) (then_do (body env) go) keep (omega (arith, le1)) e
        (seq w (After p.mid (n + 1) (n + 2) st (length cs + (1 + (length whole + b)))) R go
        (after_body k p.mid to pc st b p.back s.0 room (λ env c le. rec pc to env st c b s le room)) (body env) (c - 1 + w.more) (at w m env st)
        (hb m p.mid env st (c - 1 + w.more) (length cs + (1 + (length whole + b))) p.front (omega (arith, le1, l2, l3, size)) (omega (arith, lb, room)))))
        (λ m c f s1 le1 e keep.
        let p = parted w bs behind_body m to s1 in
        let q = parted w cs back_to p.mid to p.back.1 in
        moves w R c f (at w (w.place (n + 1)) env st) (skip env) keep (omega (arith, le1)) e
        (over (w.place (n + 1)) to out back env st b (c - 1) (q.back.2.0 ∙ q.back.2.1) (omega (arith, le1))))

  jump_out : (l : ℕ) (to_left : Locals → Left) (pc to out back : ℕ) (env : Locals) (st : List Value) (b0 b : ℕ) → Standing w pc (Branch Always l ∷ []) to → 1 + b ≤ b0 → ((c : ℕ) → b ≤ c → After to out back st b (to_left env) c (at w (w.place l) env st)) → Going w (After to out back st b) b0 (at w pc env st) (Gives (to_left env))
  jump_out l to_left pc to out back env st b0 b s le q =
      moves w (After to out back st b) b0 (at w pc env st) (at w (w.place l) env st) (Gives (to_left env)) (λ h. h) (omega (arith, le)) (at_row w (JumpTo Always (w.place l)) pc s.0 env st s.1)
      (stop w (After to out back st b) (b0 - 1) (at w (w.place l) env st) (to_left env) (q (b0 - 1) (omega (arith, le))))

  -- a return
  leave_makes : (value : Option TypedExpr) (n out back : ℕ) → Makes out back (shape.leave value n).items (shape.leave value n).need (leave value)
  leave_makes None n out back = λ pc to env st b0 b s le room.
      stop w (After to out back st b) b0 (at w pc env st) (Returned None) (omega (arith, le), at_row w ReturnVoid pc s.0 env st s.1)
  leave_makes (Some value) n out back = by_kind (kind_of_type value.ty) where
    by_kind : (o : Option Kind) → Makes out back (shape.return_of o ((coded value).codes n)).items (shape.return_of o ((coded value).codes n)).need (λ env. then_do (value_of value env) (λ v. found o (λ kind. do_of (of_kind kind v) (λ u. Gives (Returned (Some u))))))
    by_kind None pc to env st b0 b s le room =
        seq w (IsAt w to env st b) (After to out back st b) (λ v. Stuck) (λ v c f q. λ held. tt) (value_of value env) b0 (at w pc env st) (((expr_sure w value).value n).value pc to env st b0 b s le room)
    by_kind (Some kind) pc to env st b0 b s le room =
        let c = (coded value).codes n in
        operand w (After to out back st b) c.value (Plain (ReturnValue kind) ∷ []) c.need (value_of value) (λ v. do_of (of_kind kind v) (λ u. Gives (Returned (Some u)))) ((expr_sure w value).value n).value pc to env st b0 b s le room (λ v m c1 nv s1 le1.
        leaves_now v (is_kind kind v) refl m c1 (omega (arith, le1)) (at_row w (ReturnValue kind) m s1.0 env (v ∷ st) s1.1)) where
          leaves_now : (v : Value) (x : Bool) → is_kind kind v ≡ x → (m c1 : ℕ) → 1 ≤ c1 → run w (at w m env (v ∷ st)) ≡ leaves_with (result_kind w.file w.method) kind v → Going w (After to out back st b) c1 (at w m env (v ∷ st)) (do_of (where_true x (Fine v)) (λ u. Gives (Returned (Some u))))
          leaves_now v true h m c1 le1 e = stop w (After to out back st b) c1 (at w m env (v ∷ st)) (Returned (Some v)) (le1, kind, h, e)
          leaves_now v false h m c1 le1 e = λ held. tt

  -- what is known of statements
  abbrev Turned : Type 0
  Turned = ℕ → Locals → Does Left

  abbrev SureMade : Turned → Made → Type 0
  SureMade d m = (k n out back : ℕ) → length (m n out back).items ≤ w.more → Makes out back (m n out back).items (m n out back).need (d k)

  abbrev kind_does : TypedStmtKind → Turned
  kind_does = fold-TypedStmtKind Turned Turned does_step (λ s. s.kind)

  abbrev kind_made : TypedStmtKind → Made
  kind_made = fold-TypedStmtKind Made Made made_step (λ s. s.kind)

  abbrev SureKind : Type 0
  SureKind = (k : TypedStmtKind) × SureMade (kind_does k) (kind_made k)

  abbrev SureStmt : Type 0
  SureStmt = (s : TypedStmt) × SureMade (does s) (made s)

  nothing_makes : SureMade (λ k env. skip env) shape.nothing
  nothing_makes k n out back size pc to env st b0 b s le room = over pc to out back env st b b0 s (omega (arith, le))

  order_makes : (ss : List SureStmt) → SureMade (in_order (map does (map (λ e. e.0) ss))) (in_row (map made (map (λ e. e.0) ss)))
  order_makes [] k n out back size = λ pc to env st b0 b s le room. over pc to out back env st b b0 s (omega (arith, le))
  order_makes (s ∷ ss) k n out back size =
      let c = made s.0 n out back in
      let d = in_row (map made (map (λ e. e.0) ss)) c.next out back in
      let l = length-append c.items d.items in
      seq_run out back c.items d.items c.need d.need (max c.need d.need) (does s.0 k) (in_order (map does (map (λ e. e.0) ss)) k) (omega arith) (omega arith) (s.1 k n out back (omega (arith, l, size))) (order_makes ss k c.next out back (omega (arith, l, size)))

  test_runs : (test : Option TypedExpr) (n : ℕ) → Runs w (test_codes test n) (test_of test)
  test_runs None n = plain_runs w (Plain (PushInt (pos 1)) ∷ []) 1 n (λ env. Gives (of_truth true)) (λ pc to env st b0 b s le room.
      push_last w (Int (pos 1)) to env st b0 b (at w pc env st) (λ h. h) le refl room (at_row w (PushInt (pos 1)) pc s.0 env st s.1 ∙ ap (λ k. pushed (Int (pos 1)) (at w k env st)) s.2))
  test_runs (Some test) n = (expr_sure w test).value n

  -- a loop with its parts
  repeat_makes : (tc : ℕ → Codes) (test : Locals → Does Value) → ((n : ℕ) → Runs w (tc n) test) → (change : Turned) (cm : Made) → SureMade change cm → (body : Turned) (bm : Made) → SureMade body bm → SureMade (λ k. turns k test (change k) (body k)) (repeat tc cm bm)
  repeat_makes tc test ht change cm hc body bm hb k n out back size =
      let c = tc (n + 3) in let d = bm c.next (n + 1) (n + 2) in let e = cm d.next out back in
      let back_to : List Item = Branch Always n ∷ Mark (n + 1) ∷ [] in
      let l1 = length-append (c.test false (n + 1)) (d.items ++ (Mark (n + 2) ∷ (e.items ++ back_to))) in
      let l2 = length-append d.items (Mark (n + 2) ∷ (e.items ++ back_to)) in
      let l3 = length-append e.items back_to in
      turns_run out back c.test d.items e.items c.need d.need e.need (max c.need (max d.need e.need)) test (body k) (change k) n size (omega arith) (omega arith) (omega arith)
      (ht (n + 3)).test (hb k c.next (n + 1) (n + 2) (omega (arith, l1, l2, size))) (hc k d.next out back (omega (arith, l1, l2, l3, size))) k

  begin_makes : (init : Turned) (im : Made) → SureMade init im → (rest : Turned) (rm : Made) → SureMade rest rm → SureMade (λ k env. then_do (init k env) (go_on (rest k))) (begin_loop im rm)
  begin_makes init im hi rest rm hr k n out back size =
      let c = im n out back in let d = rm c.next out back in
      let l = length-append c.items d.items in
      seq_run out back c.items d.items c.need d.need (max c.need d.need) (init k) (rest k) (omega arith) (omega arith) (hi k n out back (omega (arith, l, size))) (hr k c.next out back (omega (arith, l, size)))

  for_makes : (init : Turned) (im : Made) → SureMade init im → (test : Option TypedExpr) (change : Turned) (cm : Made) → SureMade change cm → (body : Turned) (bm : Made) → SureMade body bm →
      SureMade (λ k env. then_do (init k env) (go_on (turns k (test_of test) (change k) (body k)))) (begin_loop im (repeat (test_codes test) cm bm))
  for_makes init im hi test change cm hc body bm hb =
      begin_makes init im hi (λ k. turns k (test_of test) (change k) (body k)) (repeat (test_codes test) cm bm) (repeat_makes (test_codes test) (test_of test) (test_runs test) change cm hc body bm hb)

  if_makes : (test : TypedExpr) (first second : SureStmt) → SureMade (λ k env. by_truth (value_of test env) (does first.0 k env) (does second.0 k env)) (shape.decide (coded test) (made first.0) (Some (made second.0)))
  if_makes test first second k n out back size pc to env st b0 b s le room =
      let c = (coded test).codes (n + 2) in let d = made first.0 c.next out back in let e = made second.0 d.next out back in
      let l1 = length-append (c.test false n) (d.items ++ (Branch Always (n + 1) ∷ Mark n ∷ (e.items ++ Mark (n + 1) ∷ []))) in
      let l2 = length-append d.items (Branch Always (n + 1) ∷ Mark n ∷ (e.items ++ Mark (n + 1) ∷ [])) in
      let l3 = length-append e.items (Mark (n + 1) ∷ []) in
      choice_run w (λ z j. After z out back st j) (left_over out back st) c.test d.items e.items c.need (value_of test) (does first.0 k env) (does second.0 k env) n env st ((expr_sure w test).value (n + 2)).test (omega (arith, room))
      (λ pc to b0 b s le. first.1 k c.next out back (omega (arith, l1, l2, size)) pc to env st b0 b s le (omega (arith, room)))
      (λ pc to b0 b s le. second.1 k d.next out back (omega (arith, l1, l2, l3, size)) pc to env st b0 b s le (omega (arith, room))) pc to b0 b s le

  when_makes : (test : TypedExpr) (first : SureStmt) → SureMade (λ k env. by_truth (value_of test env) (does first.0 k env) (skip env)) (shape.decide (coded test) (made first.0) None)
  when_makes test first k n out back size =
      let c = (coded test).codes (n + 2) in let d = made first.0 c.next out back in
      let l1 = length-append (c.test false n) (d.items ++ Mark n ∷ []) in
      let l2 = length-append d.items (Mark n ∷ []) in
      where_run out back c.test d.items c.need d.need (max c.need d.need) (value_of test) (does first.0 k) n (omega arith) (omega arith) ((expr_sure w test).value (n + 2)).test (first.1 k c.next out back (omega (arith, l1, l2, size)))

  layer : (y : TypedStmtKind-F SureKind SureStmt) →
      SureMade (does_step (map-TypedStmtKind TypedStmtKind TypedStmt Turned Turned kind_does does (map-TypedStmtKind SureKind SureStmt TypedStmtKind TypedStmt (λ e. e.0) (λ e. e.0) y)))
      (made_step (map-TypedStmtKind TypedStmtKind TypedStmt Made Made kind_made made (map-TypedStmtKind SureKind SureStmt TypedStmtKind TypedStmt (λ e. e.0) (λ e. e.0) y)))
  layer (form.Block block) = order_makes block
  layer form.Empty = nothing_makes
  layer (form.Local slot t value) = λ k n out back size. declare_makes t slot value n out back
  layer (form.If test first None) = when_makes test first
  layer (form.If test first (Some second)) = if_makes test first second
  layer (form.While test body) = repeat_makes (coded test).codes (value_of test) (expr_sure w test).value (λ k env. skip env) shape.nothing nothing_makes (does body.0) (made body.0) body.1
  layer (form.For None test None body) = for_makes (λ k env. skip env) shape.nothing nothing_makes test (λ k env. skip env) shape.nothing nothing_makes (does body.0) (made body.0) body.1
  layer (form.For None test (Some change) body) = for_makes (λ k env. skip env) shape.nothing nothing_makes test (does change.0) (made change.0) change.1 (does body.0) (made body.0) body.1
  layer (form.For (Some init) test None body) = for_makes (does init.0) (made init.0) init.1 test (λ k env. skip env) shape.nothing nothing_makes (does body.0) (made body.0) body.1
  layer (form.For (Some init) test (Some change) body) = for_makes (does init.0) (made init.0) init.1 test (does change.0) (made change.0) change.1 (does body.0) (made body.0) body.1
  layer form.Break = λ k n out back size pc to env st b0 b s le room. jump_out out Breaks pc to out back env st b0 b s le (λ c h. (h, refl))
  layer form.Continue = λ k n out back size pc to env st b0 b s le room. jump_out back Continues pc to out back env st b0 b s le (λ c h. (h, refl))
  layer (form.Return value) = λ k n out back size. leave_makes value n out back
  layer (form.Assign left sign right) = λ k n out back size. assign_makes (change_of sign) (meant left) (meant right) (coded left) (coded right) (expr_sure w left) (expr_sure w right) n out back
  layer (form.Bump left up) = λ k n out back size. bump_makes up (meant left) (coded left) (expr_sure w left) n out back
  layer (form.Run value) = λ k n out back size pc to env st b0 b s le room.
      seq w (IsOver w to env st b) (After to out back st b) (λ v. skip env) (λ v c f q. from_here w (After to out back st b) c f (at w to env st) (skip env) q.1 (over to to out back env st b c refl q.0))
      (value_of value env) b0 (at w pc env st) (((expr_sure w value).value n).done pc to env st b0 b s le room)

  with_both : {A B : Type 0} (Q : A → B → Type 0) (a c : A) (b d : B) → a ≡ c → b ≡ d → Q c d → Q a b
  with_both Q a c b d e f q = subst (λ x. Q x b) (sym e) (subst (λ y. Q c y) (sym f) q)

  pub stmt_makes : (s : TypedStmt) → SureMade (does s) (made s)
  stmt_makes = ind-TypedStmt (λ k. SureMade (kind_does k) (kind_made k)) (λ s. SureMade (does s) (made s))
      (λ x y is. with_both SureMade _ _ _ _ (fold-roll-TypedStmtKind Turned Turned does_step (λ s. s.kind) x) (fold-roll-TypedStmtKind Made Made made_step (λ s. s.kind) x)
      (subst (λ (z : TypedStmtKind-F TypedStmtKind TypedStmt). SureMade (does_step (map-TypedStmtKind TypedStmtKind TypedStmt Turned Turned kind_does does z)) (made_step (map-TypedStmtKind TypedStmtKind TypedStmt Made Made kind_made made z))) is (layer y)))
      (λ x y is. with_both SureMade _ _ _ _ (fold-roll-TypedStmt Turned Turned does_step (λ s. s.kind) x) (fold-roll-TypedStmt Made Made made_step (λ s. s.kind) x)
      (subst (λ (z : form.TypedStmt-F TypedStmtKind TypedStmt). SureMade (kind_does z.kind) (kind_made z.kind)) is y.kind.1))

  pub block_makes : (ss : List TypedStmt) → SureMade (block_does ss) (block_code ss)
  block_makes [] k n out back size = λ pc to env st b0 b s le room. over pc to out back env st b b0 s (omega (arith, le))
  block_makes (s ∷ ss) k n out back size =
      let c = made s n out back in
      let d = in_row (map made ss) c.next out back in
      let l = length-append c.items d.items in
      seq_run out back c.items d.items c.need d.need (max c.need d.need) (does s k) (in_order (map does ss) k) (omega arith) (omega arith) (stmt_makes s k n out back (omega (arith, l, size))) (block_makes ss k c.next out back (omega (arith, l, size)))
