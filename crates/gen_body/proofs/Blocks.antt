-- The pieces of which the code of trees is made.
use Rattle.std.proofs.Common.{◌≡◌, ℕ, ◌+◌, ◌-◌, ◌≤◌, List, [], ◌∷◌, ◌++◌, length, Option, Some, None, refl, sym, ap, ◌∙◌, subst, arith, length-append}
use Rattle.std.specs.Prelude.{ℤ, pos, Bool, true, false, not, nat_eq, max, option_and_then, if◌then◌else◌}
use Rattle.std.proofs.lemmas.Bool.{le-leb}
use Rattle.class_form.specs.declared.member.Code.{Code}
use Rattle.jp_pred.specs.declared.ty.Ty.{Ty}
use Rattle.jp_store.specs.declared.value.Value.{Value}
use Rattle.jp_store.specs.declared.value.Value.TheVariants.{Int, Long, Null, Ref, Text}
use Rattle.jp_store.specs.declared.value.Kind.{Kind}
use Rattle.jp_store.specs.declared.outcome.Outcome.{Outcome}
use Rattle.jp_store.specs.declared.outcome.Outcome.TheVariants.{Fine}
use Rattle.jp_store.specs.Arith.{of_truth, is_kind, width_of}
use Rattle.jp_store.specs.Work.{Op, where_true}
use Rattle.jp_does.specs.Does.{Gives, Works, Stuck, then_do, do_of, found}
use Rattle.jp_meaning.specs.Does.{Does}
use Rattle.jp_meaning.specs.Descriptors.{kind_of_type}
use Rattle.jp_meaning.specs.Expressions.{Locals, fits, typed, is_true, truth_of}
use Rattle.jvm_table.specs.declared.frame.Frame.{Frame}
use Rattle.jvm_table.specs.declared.decode.Row.{Row}
use Rattle.jvm_table.specs.declared.instr.Instr.{Instr}
use Rattle.jvm_table.specs.declared.instr.Instr.TheVariants.{PushNull, PushInt, PopTop, Dup, JumpTo}
use Rattle.jvm_table.specs.declared.instr.Jump.TheVariants.{Always}
use Rattle.jvm_table.specs.Stack.{depth_of}
use Rattle.jvm_table.specs.Decode.{row_at}
use Rattle.jvm_table.specs.Act.{Moves, Effects, NoRow, has_room, then_push, pushed, answered, on_found, acted, landed, act, where_so as where_row}
use Rattle.code_trace.specs.Follows.{Onward}
use Rattle.code_trace.proofs.Follow.{Gives_as}
use Rattle.code_asm.specs.Items.{Item, Plain, Branch}
use Rattle.gen_body.specs.Codes.{Codes, plain, void, judged, choose_truth, jump_where}
use Rattle.gen_body.proofs.Going.{Setting, run, at, Standing, parted, Here, Held, Going, from_here, seq, ending, stop, moves, works_on, on_outcome}
use Rattle.gen_body.proofs.Values.{IsNarrow, IsShort, IsShortIf, of_short, types_short, not_zero, is_zero}

-- there where the answer is the wanted one, and else on
abbrev pub landing : Bool → ℕ → ℕ → Bool → ℕ
landing true to next true = to
landing true to next false = next
landing false to next true = next
landing false to next false = to

-- values pushed one after another
abbrev pub all_on : List Value → List Value → List Value
all_on [] st = st
all_on (v ∷ vs) st = all_on vs (v ∷ st)

module _ (w : Setting) where
  -- places are left on the stack
  abbrev pub Room : ℕ → List Value → Type 0
  Room need st = need + depth_of st ≤ w.code.max_stack

  -- the row at a place
  pub at_row : (i : Instr) (pc next : ℕ) (env : Locals) (st : List Value) → row_at w.code.bytes pc ≡ Some (record { instr = i; next = next }) → run w (at w pc env st) ≡ act w.file w.method i (at w next env st)
  at_row i pc next env st h =
      ap (λ (o : Option Code). on_found (option_and_then (λ code. row_at code.bytes pc) o) (λ (row : Row). act w.file w.method row.instr (record (at w pc env st) { place = row.next }))) w.has
      ∙ ap (λ (o : Option Row). on_found o (λ row. act w.file w.method row.instr (record (at w pc env st) { place = row.next }))) h

  pub has_push : (v : Value) (k : ℕ) (env : Locals) (st : List Value) → IsNarrow v → Room 1 st → has_room v (at w k env st) ≡ true
  has_push v k env st n r = le-leb (width_of v + depth_of st) w.code.max_stack (omega (arith, n, r))

  pub push_row : (v : Value) (k : ℕ) (env : Locals) (st : List Value) → IsNarrow v → Room 1 st → pushed v (at w k env st) ≡ Moves (at w k env (v ∷ st))
  push_row v k env st n r = ap (λ b. if b then Moves (at w k env (v ∷ st)) else NoRow) (has_push v k env st n r)

  pub answer_row : (v : Value) (k : ℕ) (env : Locals) (st : List Value) → IsNarrow v → Room 1 st → answered true v (at w k env st) ≡ Some (at w k env (v ∷ st))
  answer_row v k env st n r = ap (λ b. if b then Some (at w k env (v ∷ st)) else None) (has_push v k env st n r)

  -- a value that is pushed takes one place, which was left
  abbrev pub IsPushed : Value → List Value → Type 0
  IsPushed v st = IsNarrow v × Room 1 st

  -- the code has come to a place with a value on the stack, or with none
  abbrev pub IsAt : ℕ → Locals → List Value → ℕ → Value → ℕ → Frame → Type 0
  IsAt to env st b v left f = (b ≤ left) × (f ≡ at w to env (v ∷ st)) × IsPushed v st

  abbrev pub IsOver : ℕ → Locals → List Value → ℕ → Value → ℕ → Frame → Type 0
  IsOver to env st b v left f = (b ≤ left) × (f ≡ at w to env st)

  abbrev pub IsVoid : ℕ → Locals → List Value → ℕ → Value → ℕ → Frame → Type 0
  IsVoid to env st b v left f = (b ≤ left) × (f ≡ at w to env st) × (v ≡ Null)

  -- a test, just before the jump that decides it
  abbrev pub Tested : Bool → ℕ → ℕ → Locals → List Value → ℕ → Value → ℕ → Frame → Type 0
  Tested want l to env st b (Int n) left f = (1 + b ≤ left) × (run w f ≡ Moves (at w (landing want l to (is_true n)) env st)) × (Held w f → Here w env)
  Tested want l to env st b (Long n) left f = Unit {0}
  Tested want l to env st b Null left f = Unit {0}
  Tested want l to env st b (Ref o) left f = Unit {0}
  Tested want l to env st b (Text t) left f = Unit {0}

  -- the same where the value is 0 or 1
  abbrev pub Judged : Bool → ℕ → ℕ → Locals → List Value → ℕ → Value → ℕ → Frame → Type 0
  Judged want l to env st b v left f = (x : Bool) × (v ≡ of_truth x) × (1 + b ≤ left) × (run w f ≡ Moves (at w (landing want l to x) env st)) × (Held w f → Here w env)

  abbrev pub Pushes : List Item → ℕ → (Locals → Does Value) → Type 0
  Pushes is need d = (pc to : ℕ) (env : Locals) (st : List Value) (b0 b : ℕ) → Standing w pc is to → length is + b ≤ b0 → Room need st → Going w (IsAt to env st b) b0 (at w pc env st) (d env)

  abbrev pub Drops : List Item → ℕ → (Locals → Does Value) → Type 0
  Drops is need d = (pc to : ℕ) (env : Locals) (st : List Value) (b0 b : ℕ) → Standing w pc is to → length is + b ≤ b0 → Room need st → Going w (IsOver to env st b) b0 (at w pc env st) (d env)

  abbrev pub Voids : List Item → ℕ → (Locals → Does Value) → Type 0
  Voids is need d = (pc to : ℕ) (env : Locals) (st : List Value) (b0 b : ℕ) → Standing w pc is to → length is + b ≤ b0 → Room need st → Going w (IsVoid to env st b) b0 (at w pc env st) (d env)

  abbrev pub Tests : (Bool → ℕ → List Item) → ℕ → (Locals → Does Value) → Type 0
  Tests t need d = (want : Bool) (l pc to : ℕ) (env : Locals) (st : List Value) (b0 b : ℕ) → Standing w pc (t want l) to → length (t want l) + b ≤ b0 → Room need st → Going w (Tested want (w.place l) to env st b) b0 (at w pc env st) (d env)

  abbrev pub Judges : (Bool → ℕ → List Item) → ℕ → (Locals → Does Value) → Type 0
  Judges t need d = (want : Bool) (l pc to : ℕ) (env : Locals) (st : List Value) (b0 b : ℕ) → Standing w pc (t want l) to → length (t want l) + b ≤ b0 → Room need st → Going w (Judged want (w.place l) to env st b) b0 (at w pc env st) (d env)

  pub record Runs (c : Codes) (d : Locals → Does Value) : Type 0 where
    pub value : Pushes c.value c.need d
    pub test : Tests c.test c.need d
    pub done : Drops c.done c.need d

  -- an operand, and what follows with it on the stack
  pub operand : {B : Type 0} (R : B → ℕ → Frame → Type 0) (is rest : List Item) (need : ℕ) (d : Locals → Does Value) (go : Value → Does B) → Pushes is need d → (pc to : ℕ) (env : Locals) (st : List Value) (b0 b : ℕ) → Standing w pc (is ++ rest) to → length (is ++ rest) + b ≤ b0 → Room need st → ((v : Value) (m c : ℕ) → IsPushed v st → Standing w m rest to → length rest + b ≤ c → Going w R c (at w m env (v ∷ st)) (go v)) → Going w R b0 (at w pc env st) (then_do (d env) go)
  operand R is rest need d go h pc to env st b0 b s le room k =
      let p = parted w is rest pc to s in
      let n = length-append is rest in
      seq w (IsAt p.mid env st (length rest + b)) R go
      (λ v c f q. from_here w R c f (at w p.mid env (v ∷ st)) (go v) q.1 (k v p.mid c q.2 p.back q.0))
      (d env) b0 (at w pc env st) (h pc p.mid env st b0 (length rest + b) p.front (omega (arith, n, le)) room)

  -- one instruction more, behind an evaluation
  pub then_moves : (R : Value → ℕ → Frame → Type 0) (is rest : List Item) (need : ℕ) (d : Locals → Does Value) → Pushes is need d → (pc to : ℕ) (env : Locals) (st : List Value) (b0 b : ℕ) → Standing w pc (is ++ rest) to → length (is ++ rest) + b ≤ b0 → Room need st → ((v : Value) (m c : ℕ) → IsPushed v st → Standing w m rest to → length rest + b ≤ c → Going w R c (at w m env (v ∷ st)) (Gives v)) → Going w R b0 (at w pc env st) (d env)
  then_moves R is rest need d h pc to env st b0 b s le room k =
      let p = parted w is rest pc to s in
      let n = length-append is rest in
      ending w (IsAt p.mid env st (length rest + b)) R
      (λ v c f q. from_here w R c f (at w p.mid env (v ∷ st)) (Gives v) q.1 (k v p.mid c q.2 p.back q.0))
      (d env) b0 (at w pc env st) (h pc p.mid env st b0 (length rest + b) p.front (omega (arith, n, le)) room)

  -- a value is pushed, and that is all
  pub push_last : (v : Value) (to : ℕ) (env : Locals) (st : List Value) (c b : ℕ) (f : Frame) → (Held w f → Here w env) → 1 + b ≤ c → IsNarrow v → Room 1 st → run w f ≡ pushed v (at w to env st) → Going w (IsAt to env st b) c f (Gives v)
  push_last v to env st c b f keep le n room e =
      moves w (IsAt to env st b) c f (at w to env (v ∷ st)) (Gives v) keep (omega (arith, le)) (e ∙ push_row v to env st n room)
      (stop w (IsAt to env st b) (c - 1) (at w to env (v ∷ st)) v (omega (arith, le), refl, (n, room)))

  -- what an operation comes to is pushed
  pub outcome_last : (r : Outcome Value) (to : ℕ) (env : Locals) (st : List Value) (c b : ℕ) (f : Frame) → (Held w f → Here w env) → 1 + b ≤ c → Gives_as IsNarrow r → Room 1 st → run w f ≡ acted r (λ v. pushed v (at w to env st)) → Going w (IsAt to env st b) c f (do_of r Gives)
  outcome_last r to env st c b f keep le n room e =
      on_outcome w IsNarrow (IsAt to env st b) c f r (λ v. pushed v (at w to env st)) Gives (omega (arith, le)) e n
      (λ v wide g. push_last v to env st c b f keep le wide room g)

  -- where it is stuck there is nothing to show
  pub stuck_on : {B : Type 0} (Q : B → ℕ → Frame → Type 0) (c : ℕ) (o : Option Frame) → Onward {A = B} o Stuck (λ g. Going w Q c g Stuck)
  stuck_on Q c None = refl
  stuck_on Q c (Some g) = λ held. tt

  -- a value of a kind is pushed
  pub fit_last : (kind : Kind) → IsShort kind → (v : Value) (to : ℕ) (env : Locals) (st : List Value) (c b : ℕ) (f : Frame) → (Held w f → Here w env) → 1 + b ≤ c → Room 1 st → run w f ≡ where_row (is_kind kind v) (pushed v (at w to env st)) → Going w (IsAt to env st b) c f (fits kind v)
  fit_last kind short v to env st c b f keep le room e = by_kind (is_kind kind v) refl e where
    by_kind : (x : Bool) → is_kind kind v ≡ x → run w f ≡ where_row x (pushed v (at w to env st)) → Going w (IsAt to env st b) c f (do_of (where_true x (Fine v)) Gives)
    by_kind true h g = push_last v to env st c b f keep le (of_short kind short v h) room g
    by_kind false h g = λ held. tt

  -- an answer of a kind is pushed
  pub answer_on : (kind : Kind) → IsShort kind → (v : Value) (to : ℕ) (env : Locals) (st : List Value) (c b : ℕ) → b ≤ c → Room 1 st → Onward (answered true v (at w to env st)) (fits kind v) (λ g. Going w (IsAt to env st b) c g (fits kind v))
  answer_on kind short v to env st c b le room = by_kind (is_kind kind v) refl where
    by_kind : (x : Bool) → is_kind kind v ≡ x → Onward (answered true v (at w to env st)) (do_of (where_true x (Fine v)) Gives) (λ g. Going w (IsAt to env st b) c g (do_of (where_true x (Fine v)) Gives))
    by_kind true h =
        let n = of_short kind short v h in
        subst (λ o. Onward o (Gives v) (λ g. Going w (IsAt to env st b) c g (Gives v))) (sym (answer_row v to env st n room))
        (stop w (IsAt to env st b) c (at w to env (v ∷ st)) v (le, refl, (n, room)))
    by_kind false h = stuck_on (IsAt to env st b) c (answered true v (at w to env st))

  -- what is done to the store answers a value of a kind, or of a type's kind
  pub work_last : (kind : Kind) → IsShort kind → (op : Op) (to : ℕ) (env : Locals) (st : List Value) (c b : ℕ) (f : Frame) → (Held w f → Here w env) → 1 + b ≤ c → Room 1 st → run w f ≡ Effects op true (at w to env st) → Going w (IsAt to env st b) c f (Works op (fits kind))
  work_last kind short op to env st c b f keep le room e =
      works_on w (IsAt to env st b) c f (at w to env st) op true (fits kind) keep (omega (arith, le)) e
      (λ v may. answer_on kind short v to env st (c - 1) b (omega (arith, le)) room)

  pub typed_last : (t : Ty) (op : Op) (to : ℕ) (env : Locals) (st : List Value) (c b : ℕ) (f : Frame) → (Held w f → Here w env) → 1 + b ≤ c → Room 1 st → run w f ≡ Effects op true (at w to env st) → Going w (IsAt to env st b) c f (Works op (typed t))
  typed_last t op to env st c b f keep le room e = by_kind (kind_of_type t) (types_short t) where
    by_kind : (o : Option Kind) → IsShortIf o → Going w (IsAt to env st b) c f (Works op (λ v. found o (λ kind. fits kind v)))
    by_kind None short =
        works_on w (IsAt to env st b) c f (at w to env st) op true (λ v. Stuck) keep (omega (arith, le)) e
        (λ v may. stuck_on (IsAt to env st b) (c - 1) (answered true v (at w to env st)))
    by_kind (Some kind) short = work_last kind short op to env st c b f keep le room e

  -- a condition's value decides
  pub decide : {B : Type 0} (R : B → ℕ → Frame → Type 0) (want : Bool) (l to : ℕ) (env : Locals) (st : List Value) (b : ℕ) (go : Bool → Does B) → ((x : Bool) (c : ℕ) (f : Frame) → 1 + b ≤ c → run w f ≡ Moves (at w (landing want l to x) env st) → (Held w f → Here w env) → Going w R c f (go x)) → (v : Value) (c : ℕ) (f : Frame) → Tested want l to env st b v c f → Going w R c f (do_of (truth_of v) go)
  decide R want l to env st b go k (Int n) c f q = k (is_true n) c f q.0 q.1 q.2
  decide R want l to env st b go k (Long n) c f q = λ held. tt
  decide R want l to env st b go k Null c f q = λ held. tt
  decide R want l to env st b go k (Ref o) c f q = λ held. tt
  decide R want l to env st b go k (Text t) c f q = λ held. tt

  pub judged_truth : (want : Bool) (l to : ℕ) (env : Locals) (st : List Value) (b : ℕ) (x : Bool) (c : ℕ) (f : Frame) → 1 + b ≤ c → run w f ≡ Moves (at w (landing want l to x) env st) → (Held w f → Here w env) → Going w (Judged want l to env st b) c f (Gives (of_truth x))
  judged_truth want l to env st b x c f le e keep = stop w (Judged want l to env st b) c f (of_truth x) (x, refl, le, e, keep)

  of_judged : (want : Bool) (l to : ℕ) (env : Locals) (st : List Value) (b : ℕ) (v : Value) (c : ℕ) (f : Frame) → Judged want l to env st b v c f → Tested want l to env st b v c f
  of_judged want l to env st b v c f q = subst (λ u. Tested want l to env st b u c f) (sym q.1) (by_truth' q.0 q.3) where
    by_truth' : (x : Bool) → run w f ≡ Moves (at w (landing want l to x) env st) → Tested want l to env st b (of_truth x) c f
    by_truth' true e = (q.2, e, q.4)
    by_truth' false e = (q.2, e, q.4)

  pub tests_of : (t : Bool → ℕ → List Item) (need : ℕ) (d : Locals → Does Value) → Judges t need d → Tests t need d
  tests_of t need d h want l pc to env st b0 b s le room =
      ending w (Judged want (w.place l) to env st b) (Tested want (w.place l) to env st b)
      (λ v c f q. stop w (Tested want (w.place l) to env st b) c f v (of_judged want (w.place l) to env st b v c f q))
      (d env) b0 (at w pc env st) (h want l pc to env st b0 b s le room)

  -- a jump by a value
  landed_at : (want : Bool) (n : ℤ) (l to : ℕ) (env : Locals) (st : List Value) → act w.file w.method (JumpTo (jump_where want) l) (at w to env (Int n ∷ st)) ≡ Moves (at w (landing want l to (is_true n)) env st)
  landed_at true n l to env st = ap (landed true l (at w to env st)) (not_zero n) ∙ by_truth' (is_true n) where
    by_truth' : (x : Bool) → landed true l (at w to env st) x ≡ Moves (at w (landing true l to x) env st)
    by_truth' true = refl
    by_truth' false = refl
  landed_at false n l to env st = ap (landed true l (at w to env st)) (is_zero n) ∙ by_truth' (is_true n) where
    by_truth' : (x : Bool) → landed true l (at w to env st) (not x) ≡ Moves (at w (landing false l to x) env st)
    by_truth' true = refl
    by_truth' false = refl

  tested : (want : Bool) (l m to : ℕ) (env : Locals) (st : List Value) (b : ℕ) (v : Value) (c : ℕ) → Standing w m (Branch (jump_where want) l ∷ []) to → 1 + b ≤ c → Tested want (w.place l) to env st b v c (at w m env (v ∷ st))
  tested want l m to env st b (Int n) c s le = (
    le,
    at_row (JumpTo (jump_where want) (w.place l)) m s.0 env (Int n ∷ st) s.1 ∙ landed_at want n (w.place l) s.0 env st
        ∙ ap (λ k. Moves (at w (landing want (w.place l) k (is_true n)) env st)) s.2,
    λ h. h,
  )
  tested want l m to env st b (Long n) c s le = tt
  tested want l m to env st b Null c s le = tt
  tested want l m to env st b (Ref o) c s le = tt
  tested want l m to env st b (Text t) c s le = tt

  -- the value on top once more
  pub dup_row : (v : Value) (k : ℕ) (env : Locals) (st : List Value) → IsNarrow v → Room 2 st → act w.file w.method Dup (at w k env (v ∷ st)) ≡ Moves (at w k env (v ∷ v ∷ st))
  dup_row v k env st n room =
      ap (λ j. where_row (nat_eq j 1) (then_push v (at w k env st) (pushed v))) n
      ∙ ap (λ b. if b then pushed v (at w k env (v ∷ st)) else NoRow) (has_push v k env st n (omega (arith, room)))
      ∙ push_row v k env (v ∷ st) n (omega (arith, room, n))

  -- the items of a value, and those for its test and its effect
  tests : (is : List Item) (need : ℕ) (d : Locals → Does Value) → Pushes is need d → Tests (λ want l. is ++ Branch (jump_where want) l ∷ []) need d
  tests is need d h want l pc to env st b0 b s le room =
      then_moves (Tested want (w.place l) to env st b) is (Branch (jump_where want) l ∷ []) need d h pc to env st b0 b s le room
      (λ v m c n s' le'. stop w (Tested want (w.place l) to env st b) c (at w m env (v ∷ st)) v (tested want l m to env st b v c s' (omega (arith, le'))))

  pop_row : (v : Value) (k : ℕ) (env : Locals) (st : List Value) → IsNarrow v → act w.file w.method PopTop (at w k env (v ∷ st)) ≡ Moves (at w k env st)
  pop_row v k env st n = ap (λ j. where_row (nat_eq j 1) (Moves (at w k env st))) n

  drops : (is : List Item) (need : ℕ) (d : Locals → Does Value) → Pushes is need d → Drops (is ++ Plain PopTop ∷ []) need d
  drops is need d h pc to env st b0 b s le room =
      then_moves (IsOver to env st b) is (Plain PopTop ∷ []) need d h pc to env st b0 b s le room
      (λ v m c n s' le'. moves w (IsOver to env st b) c (at w m env (v ∷ st)) (at w to env st) (Gives v) (λ h. h) (omega (arith, le'))
      (at_row PopTop m s'.0 env (v ∷ st) s'.1 ∙ pop_row v s'.0 env st n.0 ∙ ap (λ k. Moves (at w k env st)) s'.2)
      (stop w (IsOver to env st b) (c - 1) (at w to env st) v (omega (arith, le'), refl)))

  pub plain_runs : (is : List Item) (need n : ℕ) (d : Locals → Does Value) → Pushes is need d → Runs (plain is need n) d
  plain_runs is need n d h = record { value = h; test = tests is need d h; done = drops is need d h }

  -- more places than are needed
  pub wider : (is : List Item) (need more : ℕ) (d : Locals → Does Value) → need ≤ more → Pushes is need d → Pushes is more d
  wider is need more d le h pc to env st b0 b s l room = h pc to env st b0 b s l (omega (arith, le, room))

  -- null in the place of no value
  null_then : (is : List Item) (need : ℕ) (d : Locals → Does Value) → Voids is need d → Pushes (is ++ Plain PushNull ∷ []) (max need 1) d
  null_then is need d h pc to env st b0 b s le room =
      let p = parted w is (Plain PushNull ∷ []) pc to s in
      let n = length-append is (Plain PushNull ∷ []) in
      let one : Room 1 st = omega (arith, room) in
      let all : Room need st = omega (arith, room) in
      ending w (IsVoid p.mid env st (1 + b)) (IsAt to env st b)
      (λ v c f q. from_here w (IsAt to env st b) c f (at w p.mid env st) (Gives v) q.1
      (subst (λ u. Going w (IsAt to env st b) c (at w p.mid env st) (Gives u)) (sym q.2)
      (push_last Null to env st c b (at w p.mid env st) (λ h. h) (omega (arith, q.0)) refl one
      (at_row PushNull p.mid p.back.0 env st p.back.1 ∙ ap (λ k. pushed Null (at w k env st)) p.back.2))))
      (d env) b0 (at w pc env st) (h pc p.mid env st b0 (1 + b) p.front (omega (arith, n, le)) all)

  pub void_runs : (is : List Item) (need n : ℕ) (d : Locals → Does Value) → Voids is need d → Runs (void is need n) d
  void_runs is need n d h =
      let v = null_then is need d h in
      record {
        value = v;
        test = tests (is ++ Plain PushNull ∷ []) (max need 1) d v;
        done = λ pc to env st b0 b s le room.
            ending w (IsVoid to env st b) (IsOver to env st b) (λ v c f q. stop w (IsOver to env st b) c f v (q.0, q.1))
            (d env) b0 (at w pc env st) (h pc to env st b0 b s le (omega (arith, room)));
      }

  -- a value by its test
  judged_value : (t : Bool → ℕ → List Item) (n need : ℕ) (d : Locals → Does Value) → Judges t need d → Pushes (t false n ++ choose_truth n) (max need 1) d
  judged_value t n need d h pc to env st b0 b s le room =
      let p = parted w (t false n) (choose_truth n) pc to s in
      let len = length-append (t false n) (choose_truth n) in
      let one : Room 1 st = omega (arith, room) in
      let all : Room need st = omega (arith, room) in
      ending w (Judged false (w.place n) p.mid env st (4 + b)) (IsAt to env st b)
      (λ v c f q. subst (λ u. Going w (IsAt to env st b) c f (Gives u)) (sym q.1) (chosen one p.mid p.back q.0 c f (omega (arith, q.2)) q.3 q.4))
      (d env) b0 (at w pc env st) (h false n pc p.mid env st b0 (4 + b) p.front (omega (arith, len, le)) all) where
        chosen : Room 1 st → (m : ℕ) → Standing w m (choose_truth n) to → (x : Bool) (c : ℕ) (f : Frame) → 5 + b ≤ c → run w f ≡ Moves (at w (landing false (w.place n) m x) env st) → (Held w f → Here w env) → Going w (IsAt to env st b) c f (Gives (of_truth x))
        chosen one m s true c f le e keep =
            let R : Value → ℕ → Frame → Type 0 = IsAt to env st b in
            let v : Value = of_truth true in
            let last : w.place (n + 1) ≡ to = s.2.2.1.2.0 ∙ s.2.2.1.2.1 in
            moves w R c f (at w m env st) (Gives v) keep (omega (arith, le)) e
            (moves w R (c - 1) (at w m env st) (at w s.0 env (v ∷ st)) (Gives v) (λ h. h) (omega (arith, le))
            (at_row (PushInt (pos 1)) m s.0 env st s.1 ∙ push_row v s.0 env st refl one)
            (moves w R (c - 1 - 1) (at w s.0 env (v ∷ st)) (at w (w.place (n + 1)) env (v ∷ st)) (Gives v) (λ h. h) (omega (arith, le))
            (at_row (JumpTo Always (w.place (n + 1))) s.0 s.2.0 env (v ∷ st) s.2.1)
            (stop w R (c - 1 - 1 - 1) (at w (w.place (n + 1)) env (v ∷ st)) v (omega (arith, le), ap (λ k. at w k env (v ∷ st)) last, (refl, one)))))
        chosen one m s false c f le e keep =
            let R : Value → ℕ → Frame → Type 0 = IsAt to env st b in
            let v : Value = of_truth false in
            let z = s.2.2 in
            moves w R c f (at w s.2.0 env st) (Gives v) keep (omega (arith, le)) (e ∙ ap (λ k. Moves (at w k env st)) z.0)
            (push_last v to env st (c - 1) b (at w s.2.0 env st) (λ h. h) (omega (arith, le)) refl one
            (at_row (PushInt (pos 0)) s.2.0 z.1.0 env st z.1.1 ∙ ap (λ k. pushed v (at w k env st)) z.1.2.1))

  pub judged_runs : (t : Bool → ℕ → List Item) (n need next : ℕ) (d : Locals → Does Value) → Judges t need d → Runs (judged t n need next) d
  judged_runs t n need next d h =
      let v = judged_value t n need d h in
      record {
        value = v;
        test = λ want l pc to env st b0 b s le room. tests_of t need d h want l pc to env st b0 b s le (omega (arith, room));
        done = drops (t false n ++ choose_truth n) (max need 1) d v;
      }
