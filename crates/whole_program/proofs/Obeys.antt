-- The machine does what a script says, from the script and the code's trace alone.
use Rattle.std.proofs.Common.{◌≡◌, ℕ, zero, suc, ◌+◌, ◌*◌, ◌≤◌, List, [], ◌∷◌, ◌++◌, Option, Some, None, refl, sym, ap, ◌∙◌, subst, arith}
use Rattle.std.specs.Prelude.{ℤ, Bool, true, false, is_some, unwrap_or, slice_get}
use Rattle.std.proofs.lemmas.Bool.{false≢true}
use Rattle.std.specs.Fmt.{signed_decimal}
use Rattle.class_form.specs.declared.class_file.ClassFile.{ClassFile}
use Rattle.class_form.specs.declared.member.MemberInfo.{MemberInfo}
use Rattle.jp_store.specs.declared.value.Value.{Value}
use Rattle.jp_store.specs.declared.value.TrapKind.{TrapKind}
use Rattle.jp_store.specs.declared.outcome.Outcome.TheVariants.{Fine, Trap, Wrong}
use Rattle.jp_store.specs.Store.{Store}
use Rattle.jp_store.specs.Work.{Op, Worked, work}
use Rattle.jp_does.specs.OpenTrace.{Answer, Event, Called, Printed, Showed, WasRead, Way, Returned, Trapped as WayTrapped, AtLimit, IsStuck as WayStuck, Trace, first_of, rest_of, turned, changed, answered as answers_on, open_trace, calls_in}
use Rattle.jp_meaning.specs.Run.{End, Done, Trapped, NoBody, TwoBodies, IsStuck, More, World, Run, Came, Ended}
use Rattle.jvm_table.specs.declared.frame.Frame.{Frame}
use Rattle.jvm_table.specs.Act.{Call, Act, Moves, ShowsInt, ShowsText, Asks, Effects, Invokes, Leaves, Fails, NoRow, on_found, answered, acts}
use Rattle.jvm_load.specs.FileClasses.{classes_of}
use Rattle.jvm_step.specs.declared.value.End.TheVariants.{Cut, Trap as EndTrap}
use Rattle.jvm_step.specs.declared.state.State.{State}
use Rattle.jvm_step.specs.declared.state.Running.{Running}
use Rattle.jvm_step.specs.Turn as step_of
use Rattle.jvm_step.specs.Turn.{Turn, Goes, turn, turn_of, worked, left, returned, found_by, wants_static, same_truth}
use Rattle.jvm_step.specs.Run.{Finish, on_turn, exec}
use Rattle.code_trace.specs.CodeTrace.{with_read, value_left, on_frame, act_does, code_does, trace_from}
use Rattle.whole_program.proofs.Keeps.{Kept, work_keeps, Keeps}
use Rattle.whole_program.proofs.Acts.{pushes, Sane, sane}
use Rattle.whole_program.proofs.Script.{world, IsLost, Script, returns, trapped, limited, lost, rowless, ticks, prints, shows, reads, calls_on, call_ends}

-- a state in which a method runs
abbrev pub st : ℕ × ℕ → Frame → List Running → Store → State
st g f cs s = record { current = record { file = g.0; method = g.1; frame = f }; callers = cs; heap = s.heap; statics = s.statics }

abbrev pub cut : List ℕ → List ℕ → Finish
cut i o = record { end = Cut; input = i; out = o }

abbrev pub trap : TrapKind → List ℕ → List ℕ → Finish
trap k i o = record { end = EndTrap k; input = i; out = o }

pub exec_zero : (files : List ClassFile) (x : State) (i o : List ℕ) → exec files zero x i o ≡ cut i o
unfolding exec
exec_zero files x i o = refl

pub exec_suc : (files : List ClassFile) (n : ℕ) (x : State) (i o : List ℕ) → exec files (suc n) x i o ≡ on_turn files (exec files n) i o (turn_of files x)
unfolding exec
exec_suc files n x i o = refl

-- the frame that waits for a call
abbrev pub waiting : State → Frame → Running
waiting x on = record x.current { frame = on }

-- a run from a state in which a method is called
abbrev pub go_call : List ClassFile → State → Call → Bool → Frame → List ℕ → List ℕ → ℕ → Finish
go_call files x c push on i o zero = cut i o
go_call files x c push on i o (suc n) = on_turn files (exec files n) i o (turn files x (Invokes c push on))

-- how a run ends that doesn't come to a value: with so many instructions where it traps, and where a tick is wanted
abbrev pub Ending : (ℕ → Finish) → End → World → (ℕ → Type 0) → (ℕ → Type 0) → (ℕ → Type 0) → Type 0
Ending go Done u T U L = Unit {0}
Ending go (Trapped k) u T U L = (j : ℕ) × (go j ≡ trap k u.input u.out) × T j
Ending go More u T U L = (j : ℕ) × (go j ≡ cut u.input u.out) × U j × L j
Ending go NoBody u T U L = (j : ℕ) × (go j ≡ cut u.input u.out)
Ending go TwoBodies u T U L = (j : ℕ) × (go j ≡ cut u.input u.out)
Ending go IsStuck u T U L = (j : ℕ) × (go j ≡ cut u.input u.out)

pub ending_map : (go go' : ℕ → Finish) (f : ℕ → ℕ) → ((j : ℕ) → go' (f j) ≡ go j) → (e : End) (u : World) (T U L T' U' L' : ℕ → Type 0) →
    ((j : ℕ) → T j → T' (f j)) → ((j : ℕ) → U j → U' (f j)) → ((j : ℕ) → L j → L' (f j)) → Ending go e u T U L → Ending go' e u T' U' L'
ending_map go go' f eq Done u T U L T' U' L' a b c h = tt
ending_map go go' f eq (Trapped k) u T U L T' U' L' a b c h = (f h.0, eq h.0 ∙ h.1, a h.0 h.2)
ending_map go go' f eq More u T U L T' U' L' a b c h = (f h.0, eq h.0 ∙ h.1, b h.0 h.2, c h.0 h.3)
ending_map go go' f eq NoBody u T U L T' U' L' a b c h = (f h.0, eq h.0 ∙ h.1)
ending_map go go' f eq TwoBodies u T U L T' U' L' a b c h = (f h.0, eq h.0 ∙ h.1)
ending_map go go' f eq IsStuck u T U L T' U' L' a b c h = (f h.0, eq h.0 ∙ h.1)

lost_ending : (go : ℕ → Finish) (j : ℕ) (e : End) (u : World) (T U L : ℕ → Type 0) → IsLost e → go j ≡ cut u.input u.out → Ending go e u T U L
lost_ending go j Done u T U L l e = tt
lost_ending go j (Trapped k) u T U L l e = absurd l
lost_ending go j More u T U L l e = absurd l
lost_ending go j NoBody u T U L l e = (j, e)
lost_ending go j TwoBodies u T U L l e = (j, e)
lost_ending go j IsStuck u T U L l e = (j, e)

-- A call came to a value: the called method is about to return it
pub record Returns (files : List ClassFile) (fee : ℕ) (x : State) (c : Call) (push : Bool) (on : Frame) (cost saved : ℕ) (w u : World) (v : Value) : Type 0 where
  pub count : ℕ
  pub at : ℕ × ℕ
  pub frame : Frame
  pub given : Option Value
  pub value : value_left given ≡ v
  pub pushed : is_some given ≡ push
  pub leaves : turn_of files (st at frame (waiting x on ∷ x.callers) u.store) ≡ left (st at frame (waiting x on ∷ x.callers) u.store) given (waiting x on ∷ x.callers)
  pub comes : (n : ℕ) → go_call files x c push on w.input w.out (count + n) ≡ exec files n (st at frame (waiting x on ∷ x.callers) u.store) u.input u.out
  pub few : count + saved + u.ticks * fee ≤ cost + w.ticks * fee
  pub least : w.ticks ≤ suc count + u.ticks

abbrev pub TrapCost : ℕ → ℕ → ℕ → ℕ → ℕ → Type 0
TrapCost fee cost saved t j = j + saved ≤ suc (cost + t * fee)

abbrev pub LimitCost : ℕ → ℕ → ℕ → ℕ → ℕ → Type 0
LimitCost fee slack cost t j = j ≤ suc (cost + slack + t * fee)

abbrev pub LimitLeast : ℕ → ℕ → Type 0
LimitLeast t j = t ≤ j

-- what becomes of a call in the machine
abbrev pub Invoked : List ClassFile → ℕ → ℕ → State → Call → Bool → Frame → ℕ → ℕ → World → Run Value → Type 0
Invoked files fee slack x c push on cost saved w (Came v u) = Returns files fee x c push on cost saved w u v
Invoked files fee slack x c push on cost saved w (Ended e u) =
    Ending (go_call files x c push on w.input w.out) e u (TrapCost fee cost saved w.ticks) (LimitCost fee slack cost w.ticks) (LimitLeast w.ticks)

-- the machine does what became of a call, wherever the call is made
pub record Runs (files : List ClassFile) (fee slack cost saved : ℕ) (c : Call) (w : World) (r : Run Value) : Type 0 where
  pub keeps : Keeps w r
  pub runs : (g : ℕ × ℕ) (f on : Frame) (cs : List Running) (push : Bool) → pushes c.target ≡ Some push → Invoked files fee slack (st g f cs w.store) c push on cost saved w r

-- a method came to a value, which it is about to return
pub record LeavesWith (files : List ClassFile) (fee : ℕ) (file : ClassFile) (me : MemberInfo) (go : ℕ → Finish) (g : ℕ × ℕ) (cs : List Running) (c own t : ℕ) (es : List (Event Call)) (cost saved : ℕ) (u : World) (v : Value) : Type 0 where
  pub count : ℕ
  pub frame : Frame
  pub given : Option Value
  pub value : value_left given ≡ v
  pub act : acts file me frame ≡ Leaves given
  pub comes : (n : ℕ) → go (count + n) ≡ exec files n (st g frame cs u.store) u.input u.out
  pub few : suc count + saved + own * fee + u.ticks * fee ≤ c + cost + t * fee
  pub least : c + t ≤ suc count + calls_in es + own + u.ticks

abbrev pub TB : ℕ → ℕ → ℕ → ℕ → ℕ → ℕ → ℕ → Type 0
TB fee c own t cost saved j = j + saved + own * fee ≤ c + cost + t * fee

abbrev pub UB : ℕ → ℕ → ℕ → ℕ → ℕ → ℕ → ℕ → Type 0
UB fee slack c own t cost j = j + own * fee ≤ c + cost + slack + t * fee

abbrev pub LB : ℕ → ℕ → ℕ → List (Event Call) → ℕ → Type 0
LB c own t es j = c + t ≤ j + calls_in es + own

-- what is_some says of an optional value in a call's answer
back : (g h : ℕ × ℕ) (f on to : Frame) (cs : List Running) (s : Store) (x : State) (push : Bool) (given : Option Value) (v : Value) → value_left given ≡ v → is_some given ≡ push → answered push v on ≡ Some to →
    left (st h f (waiting (st g f cs s) on ∷ cs) s) given (waiting (st g f cs s) on ∷ cs) ≡ Goes (st g to cs s)
back g h f on to cs s x false None v a b e = ap (λ (o : Option Frame). Goes (st g (unwrap_or o on) cs s)) e
back g h f on to cs s x true None v a b e = absurd (false≢true b)
back g h f on to cs s x false (Some w) v a b e = absurd (false≢true (sym b))
back g h f on to cs s x true (Some w) v a b e =
    ap (returned (st h f (waiting (st g f cs s) on ∷ cs) s) (waiting (st g f cs s) on) cs) (ap (λ y. answered true y on) a ∙ e)

module _ (files : List ClassFile) (fee slack : ℕ) (file : ClassFile) (me : MemberInfo) (g : ℕ × ℕ) (file_there : slice_get files g.0 ≡ Some file) (method_there : slice_get file.methods g.1 ≡ Some me) (cs : List Running) where
  mul_suc : (t : ℕ) → suc t * fee ≡ fee + t * fee
  mul_suc t = grind arith

  -- How a run of the machine came out: with the instructions of the method's own, its own ticks, those that were left at its
  -- start, its events, and what its calls cost and save
  abbrev pub Out : (ℕ → Finish) → ℕ → ℕ → ℕ → List (Event Call) → ℕ → ℕ → Run Value → Type 0
  Out go c own t es cost saved (Came v u) = LeavesWith files fee file me go g cs c own t es cost saved u v
  Out go c own t es cost saved (Ended e u) = Ending go e u (TB fee c own t cost saved) (UB fee slack c own t cost) (LB c own t es)

  abbrev from : Frame → Store → List ℕ → List ℕ → ℕ → Finish
  from f s i o n = exec files n (st g f cs s) i o

  out_step : (go go' : ℕ → Finish) → ((n : ℕ) → go' (suc n) ≡ go n) → (c own t : ℕ) (es : List (Event Call)) (cost saved : ℕ) (r : Run Value) → Out go c own t es cost saved r → Out go' (suc c) own t es cost saved r
  out_step go go' eq c own t es cost saved (Came v u) h = record {
    count = suc h.count;
    frame = h.frame;
    given = h.given;
    value = h.value;
    act = h.act;
    comes = λ n. let e : suc h.count + n ≡ suc (h.count + n) = omega arith in ap go' e ∙ eq (h.count + n) ∙ h.comes n;
    few = omega (arith, h.few);
    least = omega (arith, h.least);
  }
  out_step go go' eq c own t es cost saved (Ended e u) h =
      ending_map go go' (λ j. suc j) eq e u (TB fee c own t cost saved) (UB fee slack c own t cost) (LB c own t es) (TB fee (suc c) own t cost saved) (UB fee slack (suc c) own t cost) (LB (suc c) own t es)
      (λ j x. omega (arith, x)) (λ j x. omega (arith, x)) (λ j x. omega (arith, x)) h

  -- an event that is no call
  out_event : (go : ℕ → Finish) (c own t : ℕ) (es es' : List (Event Call)) → calls_in es ≡ calls_in es' → (cost saved : ℕ) (r : Run Value) → Out go c own t es cost saved r → Out go c own t es' cost saved r
  out_event go c own t es es' e cost saved (Came v u) h = record {
    count = h.count;
    frame = h.frame;
    given = h.given;
    value = h.value;
    act = h.act;
    comes = h.comes;
    few = h.few;
    least = omega (arith, h.least, e);
  }
  out_event go c own t es es' e cost saved (Ended x u) h =
      ending_map go go (λ j. j) (λ j. refl) x u (TB fee c own t cost saved) (UB fee slack c own t cost) (LB c own t es) (TB fee c own t cost saved) (UB fee slack c own t cost) (LB c own t es')
      (λ j y. y) (λ j y. y) (λ j y. omega (arith, y, e)) h

  out_tick : (go : ℕ → Finish) (c own t : ℕ) (es : List (Event Call)) (cost saved : ℕ) (r : Run Value) → Out go c own t es cost saved r → Out go c (suc own) (suc t) es cost saved r
  out_tick go c own t es cost saved (Came v u) h = record {
    count = h.count;
    frame = h.frame;
    given = h.given;
    value = h.value;
    act = h.act;
    comes = h.comes;
    few = omega (arith, h.few, mul_suc own, mul_suc t);
    least = omega (arith, h.least);
  }
  out_tick go c own t es cost saved (Ended x u) h =
      ending_map go go (λ j. j) (λ j. refl) x u (TB fee c own t cost saved) (UB fee slack c own t cost) (LB c own t es) (TB fee c (suc own) (suc t) cost saved) (UB fee slack c (suc own) (suc t) cost) (LB c (suc own) (suc t) es)
      (λ j y. omega (arith, y, mul_suc own, mul_suc t)) (λ j y. omega (arith, y, mul_suc own, mul_suc t)) (λ j y. omega (arith, y)) h

  pub acts_in : (f : Frame) (callers : List Running) (s : Store) (a : Act) → acts file me f ≡ a → turn_of files (st g f callers s) ≡ turn files (st g f callers s) a
  acts_in f callers s a e =
      ap (λ (o : Option ClassFile). turn files (st g f callers s) (on_found o (λ file. on_found (slice_get file.methods g.1) (λ method. acts file method f)))) file_there
      ∙ ap (λ (o : Option MemberInfo). turn files (st g f callers s) (on_found o (λ method. acts file method f))) method_there
      ∙ ap (turn files (st g f callers s)) e

  step : (f : Frame) (s : Store) (i o : List ℕ) (a : Act) → acts file me f ≡ a → (n : ℕ) → from f s i o (suc n) ≡ on_turn files (exec files n) i o (turn files (st g f cs s) a)
  step f s i o a e n = exec_suc files n (st g f cs s) i o ∙ ap (on_turn files (exec files n) i o) (acts_in f cs s a e)

  as_call : (f : Frame) (s : Store) (i o : List ℕ) (c : Call) (push : Bool) (on : Frame) → acts file me f ≡ Invokes c push on → (n : ℕ) → from f s i o n ≡ go_call files (st g f cs s) c push on i o n
  as_call f s i o c push on e zero = exec_zero files (st g f cs s) i o
  as_call f s i o c push on e (suc n) = step f s i o (Invokes c push on) e n

  -- after a call's answer
  out_call : (f on to : Frame) (h : Call) (push : Bool) (s : Store) (i o : List ℕ) (k l : ℕ) (v : Value) (t : ℕ) (w : World) (c own : ℕ) (es : List (Event Call)) (cost saved : ℕ) (r : Run Value) → acts file me f ≡ Invokes h push on → answered push v on ≡ Some to →
      Returns files fee (st g f cs s) h push on k l (world t s i o) w v → Out (from to w.store w.input w.out) c own w.ticks es cost saved r → Out (from f s i o) (suc c) own t (Called h s i ∷ es) (k + cost) (l + saved) r
  out_call f on to h push s i o k l v t w c own es cost saved r e room q z = by_end r z where
    comes : (n : ℕ) → from f s i o (suc q.count + n) ≡ from to w.store w.input w.out n
    comes n =
        let a : suc q.count + n ≡ q.count + suc n = omega arith in
        let y = st q.at q.frame (waiting (st g f cs s) on ∷ cs) w.store in
        ap (from f s i o) a ∙ as_call f s i o h push on e (q.count + suc n) ∙ q.comes (suc n) ∙ exec_suc files n y w.input w.out
        ∙ ap (on_turn files (exec files n) w.input w.out) (q.leaves ∙ back g q.at q.frame on to cs w.store y push q.given v q.value q.pushed room)

    by_end : (r : Run Value) → Out (from to w.store w.input w.out) c own w.ticks es cost saved r → Out (from f s i o) (suc c) own t (Called h s i ∷ es) (k + cost) (l + saved) r
    by_end (Came y u) z = record {
      count = suc q.count + z.count;
      frame = z.frame;
      given = z.given;
      value = z.value;
      act = z.act;
      comes = λ n. let a : suc q.count + z.count + n ≡ suc q.count + (z.count + n) = omega arith in ap (from f s i o) a ∙ comes (z.count + n) ∙ z.comes n;
      few = omega (arith, q.few, z.few);
      least = omega (arith, q.least, z.least);
    }
    by_end (Ended x u) z =
        ending_map (from to w.store w.input w.out) (from f s i o) (λ j. suc q.count + j) comes x u (TB fee c own w.ticks cost saved) (UB fee slack c own w.ticks cost) (LB c own w.ticks es)
        (TB fee (suc c) own t (k + cost) (l + saved)) (UB fee slack (suc c) own t (k + cost)) (LB (suc c) own t (Called h s i ∷ es))
        (λ j y. omega (arith, y, q.few)) (λ j y. omega (arith, y, q.few)) (λ j y. omega (arith, y, q.least)) z

  out_end : (f on : Frame) (h : Call) (push : Bool) (s : Store) (i o : List ℕ) (k l : ℕ) (x : End) (w : World) (t : ℕ) → acts file me f ≡ Invokes h push on → Invoked files fee slack (st g f cs s) h push on k l (world t s i o) (Ended x w) → Out (from f s i o) 1 0 t (Called h s i ∷ []) k l (Ended x w)
  out_end f on h push s i o k l x w t e q =
      ending_map (go_call files (st g f cs s) h push on i o) (from f s i o) (λ j. j) (as_call f s i o h push on e) x w (TrapCost fee k l t) (LimitCost fee slack k t) (LimitLeast t)
      (TB fee 1 0 t k l) (UB fee slack 1 0 t k) (LB 1 0 t (Called h s i ∷ []))
      (λ j y. omega (arith, y)) (λ j y. omega (arith, y)) (λ j y. omega (arith, y)) q

  abbrev R : ℕ → ℕ → Call → World → Run Value → Type 0
  R = Runs files fee slack

  abbrev Obeys : Frame → Trace Call End → List (Answer End) → Store → List ℕ → Type 0
  Obeys f T ans s i = (own t : ℕ) (o : List ℕ) (cost saved : ℕ) (r : Run Value) → Script R own t i o T.events ans T.way cost saved r → Out (from f s i o) T.turns own t T.events cost saved r

  at_limit : (f : Frame) (s : Store) (i o : List ℕ) (ans : List (Answer End)) (own t cost saved : ℕ) (r : Run Value) → Script R own t i o [] ans AtLimit cost saved r → Out (from f s i o) 0 own t [] cost saved r
  at_limit f s _ _ _ _ _ _ _ _ (limited u i o ans) = (0, exec_zero files (st g f cs s) i o, omega arith, omega arith)
  at_limit f s _ _ _ _ _ _ _ _ (lost t u i o ans e l) = lost_ending (from f s i o) 0 e (world t u i o) (TB fee 0 0 t 0 0) (UB fee slack 0 0 t 0) (LB 0 0 t []) l (exec_zero files (st g f cs s) i o)
  at_limit f s i o ans _ _ cost saved r (ticks {own = own} {t = t} x) = out_tick (from f s i o) 0 own t [] cost saved r (at_limit f s i o ans own t cost saved r x)

  leaving : (f : Frame) (given : Option Value) (v : Value) (s u : Store) (i j o : List ℕ) (ans : List (Answer End)) (own t cost saved : ℕ) (r : Run Value) → acts file me f ≡ Leaves given → value_left given ≡ v → s ≡ u → Script R own t i o [] ans (Returned v u j) cost saved r → Out (from f s i o) 1 own t [] cost saved r
  leaving f given _ s _ _ _ _ _ _ _ _ _ _ e val same (returns t u i o ans v) = record {
    count = 0;
    frame = f;
    given = given;
    value = val;
    act = e;
    comes = λ n. let z : 0 + n ≡ n = omega arith in ap (from f s i o) z ∙ ap (λ y. from f y i o n) same;
    few = omega arith;
    least = omega arith;
  }
  leaving f given v s u i j o ans _ _ cost saved r e val same (ticks {own = own} {t = t} x) = out_tick (from f s i o) 1 own t [] cost saved r (leaving f given v s u i j o ans own t cost saved r e val same x)

  failing : (f : Frame) (k : TrapKind) (s : Store) (i o : List ℕ) (ans : List (Answer End)) (own t cost saved : ℕ) (r : Run Value) → ((o : List ℕ) → from f s i o 1 ≡ trap k i o) → Script R own t i o [] ans (WayTrapped k) cost saved r → Out (from f s i o) 1 own t [] cost saved r
  failing f _ s _ _ _ _ _ _ _ _ e (trapped t u i o ans k) = (1, e o, omega arith)
  failing f k s i o ans _ _ cost saved r e (ticks {own = own} {t = t} x) = out_tick (from f s i o) 1 own t [] cost saved r (failing f k s i o ans own t cost saved r e x)

  -- where the code has no row, the program is lost, and the run may be cut there
  stuck_out : (go : ℕ → Finish) (j : ℕ) (i o : List ℕ) → go j ≡ cut i o → (ans : List (Answer End)) (own t cost saved : ℕ) (r : Run Value) → Script R own t i o [] ans WayStuck cost saved r →
      (c own' t' : ℕ) (es : List (Event Call)) (cost' saved' : ℕ) → Out go c own' t' es cost' saved' r
  stuck_out go j _ _ eq _ _ _ _ _ _ (rowless t u i o ans e l) c own' t' es cost' saved' = lost_ending go j e (world t u i o) (TB fee c own' t' cost' saved') (UB fee slack c own' t' cost') (LB c own' t' es) l eq
  stuck_out go j i o eq ans _ _ cost saved r (ticks {own = own} {t = t} x) c own' t' es cost' saved' = stuck_out go j i o eq ans own t cost saved r x c own' t' es cost' saved'

  no_row : (f : Frame) (s : Store) (i o : List ℕ) (ans : List (Answer End)) (own t cost saved : ℕ) (r : Run Value) → Script R own t i o [] ans WayStuck cost saved r → Out (from f s i o) 1 own t [] cost saved r
  no_row f s i o ans own t cost saved r x = stuck_out (from f s i o) 0 i o (exec_zero files (st g f cs s) i o) ans own t cost saved r x 1 own t [] cost saved

  showing_int : (f on : Frame) (v : ℤ) (s : Store) (i o : List ℕ) (es : List (Event Call)) (ans : List (Answer End)) (way : Way End) (c own t cost saved : ℕ) (r : Run Value) → acts file me f ≡ ShowsInt v on →
      ((own t : ℕ) (o : List ℕ) → Script R own t i o es ans way cost saved r → Out (from on s i o) c own t es cost saved r) → Script R own t i o (Printed v ∷ es) ans way cost saved r → Out (from f s i o) (suc c) own t (Printed v ∷ es) cost saved r
  showing_int f on _ s i o es ans way c own t cost saved r e rest (prints v x) =
      out_event (from f s i o) (suc c) own t es (Printed v ∷ es) refl cost saved r
      (out_step (from on s i (o ++ signed_decimal v)) (from f s i o) (step f s i o (ShowsInt v on) e) c own t es cost saved r (rest own t (o ++ signed_decimal v) x))
  showing_int f on v s i o es ans way c _ _ cost saved r e rest (ticks {own = own} {t = t} x) =
      out_tick (from f s i o) (suc c) own t (Printed v ∷ es) cost saved r (showing_int f on v s i o es ans way c own t cost saved r e rest x)

  showing_text : (f on : Frame) (v : List ℕ) (s : Store) (i o : List ℕ) (es : List (Event Call)) (ans : List (Answer End)) (way : Way End) (c own t cost saved : ℕ) (r : Run Value) → acts file me f ≡ ShowsText v on →
      ((own t : ℕ) (o : List ℕ) → Script R own t i o es ans way cost saved r → Out (from on s i o) c own t es cost saved r) → Script R own t i o (Showed v ∷ es) ans way cost saved r → Out (from f s i o) (suc c) own t (Showed v ∷ es) cost saved r
  showing_text f on _ s i o es ans way c own t cost saved r e rest (shows v x) =
      out_event (from f s i o) (suc c) own t es (Showed v ∷ es) refl cost saved r
      (out_step (from on s i (o ++ v)) (from f s i o) (step f s i o (ShowsText v on) e) c own t es cost saved r (rest own t (o ++ v) x))
  showing_text f on v s i o es ans way c _ _ cost saved r e rest (ticks {own = own} {t = t} x) =
      out_tick (from f s i o) (suc c) own t (Showed v ∷ es) cost saved r (showing_text f on v s i o es ans way c own t cost saved r e rest x)

  asking : (f on : Frame) (v : ℤ) (s : Store) (i o : List ℕ) (es : List (Event Call)) (ans : List (Answer End)) (way : Way End) (c own t cost saved : ℕ) (r : Run Value) → acts file me f ≡ Asks on →
      ((own t : ℕ) (o : List ℕ) → Script R own t (rest_of i) o es ans way cost saved r → Out (from (with_read (first_of i) on) s (rest_of i) o) c own t es cost saved r) → Script R own t i o (WasRead v ∷ es) ans way cost saved r → Out (from f s i o) (suc c) own t (WasRead v ∷ es) cost saved r
  asking f on _ s i o es ans way c own t cost saved r e rest (reads x) =
      out_event (from f s i o) (suc c) own t es (WasRead (first_of i) ∷ es) refl cost saved r
      (out_step (from (with_read (first_of i) on) s (rest_of i) o) (from f s i o) (step f s i o (Asks on) e) c own t es cost saved r (rest own t o x))
  asking f on v s i o es ans way c _ _ cost saved r e rest (ticks {own = own} {t = t} x) =
      out_tick (from f s i o) (suc c) own t (WasRead v ∷ es) cost saved r (asking f on v s i o es ans way c own t cost saved r e rest x)

  -- the store of the machine, by the classes
  machine_store : (s : Store) → s.classes ≡ classes_of files → record { classes = classes_of files; heap = s.heap; statics = s.statics } ≡ s
  machine_store s hs = ap (λ c. record s { classes = c }) (sym hs)

  abbrev run : Frame → Act
  run = acts file me

  abbrev after_answer : ℕ → Bool → Frame → Store → List (Answer End) → Trace Call End
  after_answer n push on s ans = answers_on s ans (λ v u j more. open_trace n more u j (on_frame (answered push v on) (code_does run n)))

  abbrev Rec : ℕ → Type 0
  Rec n = (f : Frame) (ans : List (Answer End)) (s : Store) (i : List ℕ) → s.classes ≡ classes_of files → Obeys f (trace_from run f n ans s i) ans s i

  invoking : (n : ℕ) → Rec n → (f on : Frame) (h : Call) (push : Bool) (s u : Store) (i j o : List ℕ) (es : List (Event Call)) (ans : List (Answer End)) (way : Way End) (own t cost saved : ℕ) (r : Run Value) → acts file me f ≡ Invokes h push on → s.classes ≡ classes_of files → s ≡ u →
      es ≡ (after_answer n push on s ans).events → way ≡ (after_answer n push on s ans).way → Script R own t i o (Called h u j ∷ es) ans way cost saved r → Out (from f s i o) (suc (after_answer n push on s ans).turns) own t (Called h s i ∷ es) cost saved r
  invoking n rec f on _ push s _ i _ o _ _ _ own t _ _ r e hs same same_es same_way (calls_on {es = es} {ans = ans} {way = way} {cost = cost} {saved = saved} h k l u v w got x) =
      by_room (answered push v on) refl same_es same_way where
        s' : Store
        s' = record s { heap = w.store.heap; statics = w.store.statics }

        q : Returns files fee (st g f cs s) h push on k l (world t s i o) w v
        q = subst (λ (y : Store). Returns files fee (st g f cs y) h push on k l (world t y i o) w v) (sym same)
            (got.runs g f on cs push (subst (Sane file me) e (sane file me f)))

        next : Option Frame → Trace Call End
        next to = open_trace n ans s' w.input (on_frame to (code_does run n))

        by_room : (to : Option Frame) → answered push v on ≡ to → es ≡ (next to).events → way ≡ (next to).way → Out (from f s i o) (suc (next to).turns) own t (Called h s i ∷ es) (k + cost) (l + saved) r
        by_room None room z1 z2 =
            let y = st q.at q.frame (waiting (st g f cs s) on ∷ cs) w.store in
            let z : q.count ≡ q.count + 0 = omega arith in
            stuck_out (from f s i o) q.count w.input w.out
            (ap (from f s i o) z ∙ as_call f s i o h push on e (q.count + 0) ∙ q.comes 0 ∙ exec_zero files y w.input w.out) ans own w.ticks cost saved r
            (subst (λ (y : Way End). Script R own w.ticks w.input w.out [] ans y cost saved r) z2 (subst (λ (y : List (Event Call)). Script R own w.ticks w.input w.out y ans way cost saved r) z1 x))
            1 own t (Called h s i ∷ es) (k + cost) (l + saved)
        by_room (Some to) room z1 z2 =
            let T = trace_from run to n ans s' w.input in
            let x' = subst (λ (y : Way End). Script R own w.ticks w.input w.out T.events ans y cost saved r) z2 (subst (λ (y : List (Event Call)). Script R own w.ticks w.input w.out y ans way cost saved r) z1 x) in
            out_call f on to h push s i o k l v t w T.turns own es cost saved r e room q
            (subst (λ (y : List (Event Call)). Out (from to s' w.input w.out) T.turns own w.ticks y cost saved r) (sym z1) (rec to ans s' w.input hs own w.ticks w.out cost saved r x'))
  invoking n rec f on _ push s _ i _ o _ _ _ _ t _ _ _ e hs same same_es same_way (call_ends _ u _ _ h k l y w got) =
      out_end f on h push s i o k l y w t e (subst (λ (z : Store). Invoked files fee slack (st g f cs z) h push on k l (world t z i o) (Ended y w)) (sym same)
      (got.runs g f on cs push (subst (Sane file me) e (sane file me f))))
  invoking n rec f on h push s u i j o es ans way _ _ cost saved r e hs same same_es same_way (ticks {own = own} {t = t} x) =
      out_tick (from f s i o) (suc (after_answer n push on s ans).turns) own t (Called h s i ∷ es) cost saved r (invoking n rec f on h push s u i j o es ans way own t cost saved r e hs same same_es same_way x)

  by_room : (n : ℕ) → Rec n → (f on : Frame) (op : Op) (push : Bool) (s u : Store) (v : Value) (i : List ℕ) (ans : List (Answer End)) → acts file me f ≡ Effects op push on → s.classes ≡ classes_of files → u.classes ≡ s.classes → work op s ≡ Fine (v, u) → (to : Option Frame) → answered push v on ≡ to →
      Obeys f (turned (open_trace n ans u i (on_frame to (code_does run n)))) ans s i
  by_room n rec f on op push s u v i ans e hs hu done None room own t o cost saved r x = no_row f s i o ans own t cost saved r x
  by_room n rec f on op push s u v i ans e hs hu done (Some to) room own t o cost saved r x =
      let T = trace_from run to n ans u i in
      out_step (from to u i o) (from f s i o)
      (λ k. step f s i o (Effects op push on) e k
      ∙ ap (λ (y : Store). on_turn files (exec files k) i o (worked (st g f cs s) push on (work op y))) (machine_store s hs)
      ∙ ap (λ (y : Worked). on_turn files (exec files k) i o (worked (st g f cs s) push on y)) done
      ∙ ap (λ (y : Option Frame). on_turn files (exec files k) i o (step_of.kept (st g f cs s) u y)) room)
      T.turns own t T.events cost saved r (rec to ans u i (hu ∙ hs) own t o cost saved r x)

  by_work : (n : ℕ) → Rec n → (f on : Frame) (op : Op) (push : Bool) (s : Store) (i : List ℕ) (ans : List (Answer End)) → acts file me f ≡ Effects op push on → s.classes ≡ classes_of files → (y : Worked) → work op s ≡ y →
      Obeys f (turned (changed y (λ v u. open_trace n ans u i (on_frame (answered push v on) (code_does run n))))) ans s i
  by_work n rec f on op push s i ans e hs (Fine z) done own t o cost saved r x = by_room n rec f on op push s z.1 z.0 i ans e hs (subst (Kept s) done (work_keeps op s)).0 done (answered push z.0 on) refl own t o cost saved r x
  by_work n rec f on op push s i ans e hs (Trap k) done own t o cost saved r x =
      failing f k s i o ans own t cost saved r (λ o. step f s i o (Effects op push on) e 0
      ∙ ap (λ (y : Store). on_turn files (exec files 0) i o (worked (st g f cs s) push on (work op y))) (machine_store s hs)
      ∙ ap (λ (y : Worked). on_turn files (exec files 0) i o (worked (st g f cs s) push on y)) done) x
  by_work n rec f on op push s i ans e hs Wrong done own t o cost saved r x = no_row f s i o ans own t cost saved r x

  by_act : (n : ℕ) → Rec n → (f : Frame) (ans : List (Answer End)) (s : Store) (i : List ℕ) → s.classes ≡ classes_of files → (a : Act) → acts file me f ≡ a → Obeys f (open_trace (suc n) ans s i (act_does (code_does run n) a)) ans s i
  by_act n rec f ans s i hs (Moves to) e own t o cost saved r x =
      let T = trace_from run to n ans s i in out_step (from to s i o) (from f s i o) (step f s i o (Moves to) e) T.turns own t T.events cost saved r (rec to ans s i hs own t o cost saved r x)
  by_act n rec f ans s i hs (ShowsInt v on) e own t o cost saved r x =
      let T = trace_from run on n ans s i in showing_int f on v s i o T.events ans T.way T.turns own t cost saved r e (λ own t o x. rec on ans s i hs own t o cost saved r x) x
  by_act n rec f ans s i hs (ShowsText v on) e own t o cost saved r x =
      let T = trace_from run on n ans s i in showing_text f on v s i o T.events ans T.way T.turns own t cost saved r e (λ own t o x. rec on ans s i hs own t o cost saved r x) x
  by_act n rec f ans s i hs (Asks on) e own t o cost saved r x =
      let T = trace_from run (with_read (first_of i) on) n ans s (rest_of i) in
      asking f on (first_of i) s i o T.events ans T.way T.turns own t cost saved r e (λ own t o x. rec (with_read (first_of i) on) ans s (rest_of i) hs own t o cost saved r x) x
  by_act n rec f ans s i hs (Effects op push on) e own t o cost saved r x = by_work n rec f on op push s i ans e hs (work op s) refl own t o cost saved r x
  by_act n rec f ans s i hs (Invokes h push on) e own t o cost saved r x =
      let T = after_answer n push on s ans in invoking n rec f on h push s s i i o T.events ans T.way own t cost saved r e hs refl refl refl x
  by_act n rec f ans s i hs (Leaves v) e own t o cost saved r x = leaving f v (value_left v) s s i i o ans own t cost saved r e refl refl x
  by_act n rec f ans s i hs (Fails k) e own t o cost saved r x = failing f k s i o ans own t cost saved r (λ o. step f s i o (Fails k) e 0) x
  by_act n rec f ans s i hs NoRow e own t o cost saved r x = no_row f s i o ans own t cost saved r x

  -- the code does what the script says
  pub obeys : (n : ℕ) → Rec n
  obeys zero f ans s i hs own t o cost saved r x = at_limit f s i o ans own t cost saved r x
  obeys (suc n) f ans s i hs own t o cost saved r x = by_act n (obeys n) f ans s i hs (run f) refl own t o cost saved r x
