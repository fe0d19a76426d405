-- Whole runs from open traces alone.
use Rattle.std.proofs.Common.{◌≡◌, ℕ, zero, suc, ◌+◌, ◌-◌, ◌*◌, ◌≤◌, inl, inr, List, [], ◌∷◌, ◌++◌, length, map, Option, Some, None, refl, sym, ap, ◌∙◌, subst, arith}
use Rattle.std.specs.Prelude.{Bool, true, false, cond, slice_get}
use Rattle.std.specs.Option.{option_map}
use Rattle.class_form.specs.declared.class_file.ClassFile.{ClassFile}
use Rattle.class_form.specs.declared.member.MemberInfo.{MemberInfo}
use Rattle.iface_codec.specs.declared.iface.Iface.{Iface}
use Rattle.jp_pred.specs.declared.guard.Atom.{Atom}
use Rattle.jp_pred.specs.declared.shape.Shape.{Shape}
use Rattle.jp_pred.specs.Names.{Word}
use Rattle.jp_store.specs.declared.value.Value.{Value}
use Rattle.jp_store.specs.declared.value.Value.TheVariants.{Null}
use Rattle.jp_store.specs.declared.value.Kind.{Kind}
use Rattle.jp_store.specs.declared.outcome.Outcome.{Outcome}
use Rattle.jp_store.specs.declared.outcome.Outcome.TheVariants.{Fine, Trap, Wrong}
use Rattle.jp_store.specs.Classes.{Class}
use Rattle.jp_store.specs.Store.{Store, first_store}
use Rattle.jp_store.specs.Work.{where_true}
use Rattle.jp_does.specs.Does.{Does, Gives, do_of}
use Rattle.jp_does.specs.OpenTrace.{Answer, Answers, Ends, Event, Called, Printed, Showed, WasRead, Returned, Trace, open_trace, calls_in}
use Rattle.jp_meaning.specs.declared.unit.TypedClass.{TypedClass}
use Rattle.jp_meaning.specs.declared.unit.TypedPart.{TypedPart}
use Rattle.jp_meaning.specs.declared.unit.TypedPart.TheVariants as part
use Rattle.jp_meaning.specs.Does as source
use Rattle.jp_meaning.specs.Does.{Method}
use Rattle.jp_meaning.specs.Descriptors.{internal_name, word_of, kind_of_type}
use Rattle.jp_meaning.specs.Expressions.{of_kind, fit}
use Rattle.jp_meaning.specs.Members.{part_does}
use Rattle.jp_meaning.specs.OpenTrace.{member_trace}
use Rattle.jp_meaning.specs.Classes.{Placed, Candidate, placed, hier_in, static_named, constructor_named, has_family, chain_of}
use Rattle.jp_meaning.specs.Choice.{Choice, Selects, NoneIsTrue, NoneIsBest}
use Rattle.jp_meaning.specs.Run.{End, Done, Trapped, NoBody, TwoBodies, IsStuck, More, World, Run, Came, Ended, after, spend, play, Program, receiver_class, there, chosen, select_in, fitted, call_by, placed_does, member_run, calls, first_world, run_in, result_of, run}
use Rattle.jp_meaning.proofs.Turns.{member_cut}
use Rattle.jvm_table.specs.declared.frame.Frame.{Frame}
use Rattle.jvm_table.specs.Act.{Target, StaticMethod, VirtualMethod, Constructor, MethodAbove, Call, Leaves, acts}
use Rattle.jvm_load.specs.FileClasses.{classes_of}
use Rattle.jvm_step.specs.declared.state.Running.{Running}
use Rattle.jvm_step.specs.declared.value.End.{End as MachineEnd}
use Rattle.jvm_step.specs.declared.value.End.TheVariants as machine
use Rattle.jvm_step.specs.Turn.{is_on_null}
use Rattle.jvm_step.specs.Run.{Finish, on_turn, exec, from_start, machine_run}
use Rattle.code_trace.specs.CodeTrace.{on_frame, code_does, trace_from, code_trace}
use Rattle.code_trace.specs.Given.{IsUnder}
use Rattle.code_trace.specs.OpenTraces.{IsTraceOf, HasOpenTraces}
use Rattle.code_trace.specs.Calls.{key_of_method, target_in, call_in, event_in}
use Rattle.code_trace.specs.Entry.{entry}
use Rattle.whole_program.specs.Fits.{HoldsMade, Enters, AllEnter, FitsTarget, Fits, EachCallFits}
use Rattle.whole_program.specs.Right.{Bounds, Naming, call_to, RunsMember, RunsHelper, HelpersAnswer, shape_in, question_in, Selecting, helper_call, body_call, truth_value, truths, handed_on, dispatch_does, IsDispatchOf, RunsDispatcher, Reaches, IsRight}
use Rattle.whole_program.specs.Laws.{fee, EndsAs, Matches, RightKeepsTheMeaning}
use Rattle.whole_program.proofs.Deep.{member_deep}
use Rattle.whole_program.proofs.Keeps.{Keeps, play_keeps, member_keeps, calls_keep, OnCame, IsResult, method_result}
use Rattle.whole_program.proofs.Acts.{pushes}
use Rattle.whole_program.proofs.Script.{world, Script, returns, trapped, rowless, calls_on, call_ends, same_store, same_trace, Simulates, opens, relabel}
use Rattle.whole_program.proofs.Obeys.{st, exec_suc, waiting, Invoked, Runs, Out, acts_in, obeys}
use Rattle.whole_program.proofs.Entered.{entered_by}
use Rattle.whole_program.proofs.Receivers.{static_there, object_there, constructor_received}

calls_map : (current : List ℕ) (es : List (Event source.Call)) → calls_in (map (event_in current) es) ≡ calls_in es
calls_map current [] = refl
calls_map current (Called c s i ∷ es) = ap (λ k. suc k) (calls_map current es)
calls_map current (Printed n ∷ es) = calls_map current es
calls_map current (Showed n ∷ es) = calls_map current es
calls_map current (WasRead n ∷ es) = calls_map current es

abbrev answer_of : Run Value → Answer End
answer_of (Came v w) = Answers v w.store.heap w.store.statics w.input
answer_of (Ended e w) = Ends e

module _ (call : source.Call → World → Run Value) where
  -- a value of the result's kind is handed on as it is
  refits : (o : Option Kind) (v : Value) (w : World) → IsResult o v → play call (fit o v) w ≡ Came v w
  refits None v w e = ap (λ (x : Value). Came x w) (sym e)
  refits (Some kind) v w e = ap (λ (b : Bool). play call (do_of (where_true b (Fine v)) Gives) w) e

  after_refits : (o : Option Kind) (r : Run Value) → OnCame (IsResult o) r → after r (λ v w. play call (fit o v) w) ≡ r
  after_refits o (Came v w) h = refits o v w h
  after_refits o (Ended e w) h = refl

  spent_refits : (P : Value → Type 0) (w : World) (t : ℕ) (go : World → Run Value) → ((v : World) → OnCame P (go v)) → OnCame P (spend w t go)
  spent_refits P w zero go h = tt
  spent_refits P w (suc t) go h = h (record w { ticks = t })

module _ (p : Program) (files : List ClassFile) (naming : Naming) (b : Bounds) (fits : EachCallFits p) (right : IsRight p files naming b) where
  abbrev Fee : ℕ
  Fee = b.turn + b.dispatch

  abbrev InMember : ℕ → ℕ → Call → World → Run Value → Type 0
  InMember = Runs files Fee b.dispatch

  abbrev InDispatcher : ℕ → ℕ → Call → World → Run Value → Type 0
  InDispatcher = Runs files Fee 0

  -- calls from the classes of the program, as deep as n, come out in the machine as they do in the meaning
  abbrev Sim : ℕ → Type 0
  Sim n = (class : TypedClass) (position : ℕ) → slice_get p.classes position ≡ Some class → (c : source.Call) (w : World) → w.store.classes ≡ classes_of files → HoldsMade w.store → Fits p class.head c w.store → w.ticks ≤ n →
      InMember 0 0 (call_in (internal_name class.head.name) c) w (calls p n c w)

  -- a method's run by its script
  abbrev Ran : (file : ClassFile) (me : MemberInfo) (g : ℕ × ℕ) → slice_get files g.0 ≡ Some file → slice_get file.methods g.1 ≡ Some me → List Running → (ℕ → Finish) → ℕ → Run Value → Type 0
  Ran file me g x y cs go t r =
      (c : ℕ) × (own : ℕ) × (es : List (Event Call)) × Out files Fee b.dispatch file me g x y cs go c own t es 0 0 r × (own + calls_in es ≤ c) × (c ≤ b.turn + own * b.turn)

  member_out : (n k : ℕ) → Sim n → (q : Placed) (vs : List Value) (s : Store) → Enters p q vs s → s.classes ≡ classes_of files → HoldsMade s → (file : ClassFile) (me : MemberInfo) (g : ℕ × ℕ) (x : slice_get files g.0 ≡ Some file) (y : slice_get file.methods g.1 ≡ Some me) (frame : Frame) → entry me vs ≡ Some frame → HasOpenTraces (hier_in p.classes) q.head q.member file me b.turn →
      (cs : List Running) (t : ℕ) (i o : List ℕ) → t ≤ n → suc t ≤ k → Ran file me g x y cs (λ j. exec files j (st g frame cs s) i o) t (play (calls p n) (placed_does p k q vs) (world t s i o))
  member_out n k sim q vs s enters hs made_all file me g x y frame e has cs t i o le le' =
      let hier = hier_in p.classes in
      let current = internal_name q.head.name in
      let d = placed_does p k q vs in
      let r = play (calls p n) d (world t s i o) in
      let sim' : Simulates InMember p n q.head s = subst (λ (h : Iface). Simulates InMember p n h s) (sym enters.head) (λ c w z m f l. sim enters.class enters.position enters.class_there c w (z ∙ hs) m f l) in
      let a = opens InMember p n q.head s sim' d t s i o le (member_deep hier q.head q.member (suc t) k le' vs) refl made_all (fits.member n k q vs (world t s i o) (hs ∙ right.classes) made_all enters) in
      let T = open_trace {C = source.Call} {E = End} a.own a.answers s i d in
      let same : member_trace hier q.head q.member vs a.own a.answers s i ≡ T =
      same_trace (member_cut hier q.head q.member (suc a.own) k (omega (arith, a.few, le')) vs) a.own (member_deep hier q.head q.member (suc a.own) (suc a.own) (omega arith) vs) a.answers s i in
      let got = has vs s enters.given a.own a.answers i in
      let made = trace_from (acts file me) frame got.0 a.answers s i in
      let z : code_trace file me vs got.0 a.answers s i ≡ made = ap (λ (f : Option Frame). open_trace got.0 a.answers s i (on_frame f (code_does (acts file me) got.0))) e in
      let is : IsTraceOf current made T b.turn b.turn = subst (λ (m : Trace Call End). IsTraceOf current m T b.turn b.turn) z (subst (λ (w : Trace source.Call End). IsTraceOf current (code_trace file me vs got.0 a.answers s i) w b.turn b.turn) same got.1) in
      let s1 = subst (λ (es : List (Event Call)). Script InMember a.own t i o es a.answers T.way 0 0 r) (sym is.events) a.script in
      let s2 = relabel InMember made.way is.way s1 in
      let e1 : T.turns * b.turn ≡ a.own * b.turn = ap (λ m. m * b.turn) a.made in (
        made.turns,
        a.own,
        made.events,
        obeys files Fee b.dispatch file me g x y cs got.0 frame a.answers s i hs a.own t o 0 0 r s2,
        omega (arith, is.least, a.made, ap (λ (es : List (Event Call)). calls_in es) is.events, calls_map current T.events),
        omega (arith, is.most, e1),
      )

  -- a call of a member, whose tick pays for its turns and for a dispatcher
  exact : (n : ℕ) → Sim n → (target : Target) (q : Placed) (vs : List Value) (s : Store) → is_on_null target vs ≡ false → Enters p q vs s → s.classes ≡ classes_of files → HoldsMade s → RunsMember p files b s.heap (call_to target vs) q → (t : ℕ) (i o : List ℕ) → t ≤ suc n → (saved slack : ℕ) → saved ≤ b.dispatch →
      Runs files Fee slack 0 saved (call_to target vs) (world t s i o) (member_run p n (calls p n) q vs (world t s i o))
  exact n sim target q vs s null enters hs made_all m t i o le saved slack less = record {
    keeps = member_keeps p n (calls p n) (calls_keep p n) q vs (world t s i o);
    runs = λ g f on cs push wants. paid g f on cs push wants t le;
  } where
    paid : (g : ℕ × ℕ) (f on : Frame) (cs : List Running) (push : Bool) → pushes target ≡ Some push → (t : ℕ) → t ≤ suc n →
        Invoked files Fee slack (st g f cs s) (call_to target vs) push on 0 saved (world t s i o) (spend (world t s i o) t (play (calls p n) (placed_does p (suc n) q vs)))
    paid g f on cs push wants zero le = (0, refl, omega arith, omega arith)
    paid g f on cs push wants (suc t) le =
        let at = m.2 in
        let ran = member_out n (suc n) sim q vs s enters hs made_all m.0 m.1 at.at at.file_there at.method_there at.frame at.enters m.3 (waiting (st g f cs s) on ∷ cs) t i o (omega arith) (omega arith) in
        let r = play (calls p n) (placed_does p (suc n) q vs) (world t s i o) in
        let e1 : suc t * Fee ≡ Fee + t * Fee = grind arith in
        let e2 : ran.1 * Fee ≡ ran.1 * b.turn + ran.1 * b.dispatch = grind arith in
        entered_by files g f on cs s (call_to target vs) push m.0 m.1 at Fee b.dispatch slack 0 saved t (suc t) i o wants null ran.0 ran.1 ran.2 0 0
        (omega (arith, ran.5, e1, e2, less)) (omega (arith, ran.5, e1, e2)) ran.4 (omega arith) r ran.3

  -- a call of a helper
  helped : (c : Call) (s : Store) (v : Value) → is_on_null c.target c.args ≡ false → s.classes ≡ classes_of files → RunsHelper files c s v b.helper → (t : ℕ) (i o : List ℕ) → InDispatcher b.helper 0 c (world t s i o) (Came v (world t s i o))
  helped c s v null hs h t i o = record { keeps = (refl, omega arith, λ m. m); runs = λ g f on cs push wants. invoked g f on cs push wants } where
    invoked : (g : ℕ × ℕ) (f on : Frame) (cs : List Running) (push : Bool) → pushes c.target ≡ Some push → Invoked files Fee 0 (st g f cs s) c push on b.helper 0 (world t s i o) (Came v (world t s i o))
    invoked g f on cs push wants =
        let r : Run Value = Came v (world t s i o) in
        let at = h.runs in
        let callers = waiting (st g f cs s) on ∷ cs in
        let T = trace_from (acts h.file h.method) at.frame h.count [] s i in
        let is : T ≡ record { turns = h.count; events = []; way = Returned v s i } = sym (ap (λ (x : Option Frame). open_trace {E = End} h.count [] s i (on_frame x (code_does (acts h.file h.method) h.count))) at.enters) ∙ h.trace i in
        let script = subst (λ (y : Trace Call End). Script InDispatcher 0 t i o y.events [] y.way 0 0 r) (sym is) (returns t s i o [] v) in
        let out = obeys files Fee 0 h.file h.method at.at at.file_there at.method_there callers h.count at.frame [] s i hs 0 t o 0 0 r script in
        entered_by files g f on cs s c push h.file h.method at Fee 0 0 b.helper 0 t t i o wants null h.count 0 [] 0 0 (omega (arith, h.few)) (omega (arith, h.few)) (omega arith) (omega arith) r
        (subst (λ (y : Trace Call End). Out files Fee 0 h.file h.method at.at at.file_there at.method_there callers (λ j. exec files j (st at.at at.frame callers s) i o) y.turns 0 t y.events 0 0 r) is out)

  -- what a dispatcher does behind the answer of the body
  module _ (n : ℕ) where
    result_script : (w : World) (x : Outcome Value) → Script InDispatcher 0 w.ticks w.input w.out (open_trace {C = Call} {E = End} 0 [] w.store w.input (do_of x Gives)).events [] (open_trace {C = Call} {E = End} 0 [] w.store w.input (do_of x Gives)).way 0 0 (play (calls p n) (do_of x Gives) w)
    result_script w (Fine v) = returns w.ticks w.store w.input w.out [] v
    result_script w (Trap k) = trapped w.ticks w.store w.input w.out [] k
    result_script w Wrong = rowless w.ticks w.store w.input w.out [] IsStuck tt

    handed_script : (o : Option Kind) (v : Value) (w : World) → Script InDispatcher 0 w.ticks w.input w.out (open_trace {E = End} 0 [] w.store w.input (handed_on o v)).events [] (open_trace 0 [] w.store w.input (handed_on o v)).way 0 0 (play (calls p n) (fit o v) w)
    handed_script None v w = returns w.ticks w.store w.input w.out [] Null
    handed_script (Some kind) v w = result_script w (of_kind kind v)

  module _ (n : ℕ) (sim : Sim n) (m : Method) (class : Word) (vs : List Value) (s : Store) (k : Selecting p files m class vs s) (t : ℕ) (i o : List ℕ) (le : t ≤ suc n) where
    abbrev w0 : World
    w0 = world t s i o

    abbrev result : Option Kind
    result = kind_of_type k.candidate.method.result

    abbrev body : Call
    body = body_call naming m k.candidate vs

    abbrev r0 : Run Value
    r0 = member_run p n (calls p n) (placed k.candidate) vs w0

    abbrev whole : Run Value
    whole = after r0 (fitted k.candidate.method.result (calls p n))

    abbrev does_asked : List (Candidate × Atom) → Does Call Value
    does_asked qs = dispatch_does (map (helper_call naming vs) qs) body result

    abbrev asks : List (Candidate × Atom) → Answer End → Trace Call End
    asks qs a = open_trace 0 (truths p k.shape qs s i ++ a ∷ []) s i (does_asked qs)

    -- a dispatcher's script, with what it costs and saves
    abbrev Asked : List (Candidate × Atom) → Run Value → Type 0
    Asked qs r =
        (cost : ℕ) × (saved : ℕ) × Script InDispatcher 0 t i o (asks qs (answer_of r)).events (truths p k.shape qs s i ++ answer_of r ∷ []) (asks qs (answer_of r)).way cost saved (after r (fitted k.candidate.method.result (calls p n)))
        × (cost ≡ length qs * b.helper) × (saved ≡ b.dispatch)

    asked_script : (qs : List (Candidate × Atom)) → HelpersAnswer p files naming b k.shape vs s qs → (r : Run Value) → InDispatcher 0 b.dispatch body w0 r → Asked qs r
    asked_script [] all (Came v w) runs =
        let z = same_store s w.store runs.keeps.0 in
        let script = subst (λ (u : Store). Script InDispatcher 0 w.ticks w.input w.out (open_trace {E = End} 0 [] u w.input (handed_on result v)).events [] (open_trace 0 [] u w.input (handed_on result v)).way 0 0 (play (calls p n) (fit result v) w)) (sym z) (handed_script n result v w) in
        (0 + 0, b.dispatch + 0, calls_on body 0 b.dispatch s v w runs script, omega arith, omega arith)
    asked_script [] all (Ended e w) runs = (0, b.dispatch, call_ends t s i o body 0 b.dispatch e w runs, omega arith, refl)
    asked_script (q ∷ qs) all r runs =
        let rest = asked_script qs all.1 r runs in
        let v = truth_value p k.shape q.1 in
        let h = helped (helper_call naming vs q) s v (static_there (naming.helper q.0 q.1) vs) k.classes all.0 t i o in
        let e : suc (length qs) * b.helper ≡ b.helper + length qs * b.helper = grind arith in
        (b.helper + rest.0, 0 + rest.1, calls_on (helper_call naming vs q) b.helper 0 s v w0 h rest.2, omega (arith, rest.3, e), omega (arith, rest.4))

    dispatched : (target : Target) → RunsDispatcher p files naming b m class vs s k (call_to target vs) → (g : ℕ × ℕ) (f on : Frame) (cs : List Running) (push : Bool) → pushes target ≡ Some push →
        Invoked files Fee b.dispatch (st g f cs s) (call_to target vs) push on 0 0 w0 whole
    dispatched target d g f on cs push wants =
        let at = d.runs in
        let callers = waiting (st g f cs s) on ∷ cs in
        let a = answer_of r0 in
        let ans = truths p k.shape d.asked s i ++ a ∷ [] in
        let T = asks d.asked a in
        let got = d.traces i (a ∷ []) in
        let made = trace_from (acts d.file d.method) at.frame got.0 ans s i in
        let z : code_trace d.file d.method vs got.0 ans s i ≡ made = ap (λ (f : Option Frame). open_trace got.0 ans s i (on_frame f (code_does (acts d.file d.method) got.0))) at.enters in
        let is : IsDispatchOf made T d.own = subst (λ (y : Trace Call End). IsDispatchOf y T d.own) z got.1 in
        let q = asked_script d.asked d.helpers r0 (exact n sim body.target (placed k.candidate) vs s (object_there body.target (hier_in p.classes) s vs class k.under) k.enters k.classes k.made d.body t i o le b.dispatch 0 (omega arith)) in
        let s1 = subst (λ (es : List (Event Call)). Script InDispatcher 0 t i o es ans T.way q.0 q.1 whole) (sym is.events) q.2 in
        let s2 = relabel InDispatcher made.way is.way s1 in
        let out = obeys files Fee 0 d.file d.method at.at at.file_there at.method_there callers got.0 at.frame ans s i k.classes 0 t o q.0 q.1 whole s2 in
        entered_by files g f on cs s (call_to target vs) push d.file d.method at Fee 0 b.dispatch 0 0 t t i o wants (object_there target (hier_in p.classes) s vs class k.under) made.turns 0 made.events q.0 q.1
        (omega (arith, is.most, d.few, q.3, q.4)) (omega (arith, is.most, d.few, q.3)) (omega (arith, is.least, ap (λ (es : List (Event Call)). calls_in es) is.events)) (omega arith) whole out

    -- where the body runs itself, its answer is of the result's kind
    itself : (at : ℕ) → k.candidate.member.part ≡ part.Method at → slice_get k.candidate.head.methods at ≡ Some k.candidate.method → whole ≡ r0
    itself at is method =
        after_refits (calls p n) result r0
        (spent_refits (calls p n) (IsResult result) w0 t (play (calls p n) (placed_does p (suc n) (placed k.candidate) vs)) (λ w.
        subst (λ (x : TypedPart). OnCame (IsResult result) (play (calls p n) (part_does (hier_in p.classes) k.candidate.head k.candidate.member x (suc n) vs) w)) (sym is)
        (method_result (calls p n) (hier_in p.classes) k.candidate.head k.candidate.member at (suc n) vs w k.candidate.method method)))

    reached : (target : Target) → Reaches p files naming b m class vs s k (call_to target vs) → (g : ℕ × ℕ) (f on : Frame) (cs : List Running) (push : Bool) → pushes target ≡ Some push →
        Invoked files Fee b.dispatch (st g f cs s) (call_to target vs) push on 0 0 w0 whole
    reached target (inl d) g f on cs push wants =
        subst (Invoked files Fee b.dispatch (st g f cs s) (call_to target vs) push on 0 0 w0) (sym (itself d.at d.part d.method))
        ((exact n sim target (placed k.candidate) vs s (object_there target (hier_in p.classes) s vs class k.under) k.enters k.classes k.made d.runs t i o le 0 b.dispatch (omega arith)).runs g f on cs push wants)
    reached target (inr d) g f on cs push wants = dispatched target d g f on cs push wants

  -- a call of a family, from what is selected
  selects : (n : ℕ) → Sim n → (m : Method) (class : Word) (vs : List Value) (s : Store) (t : ℕ) (i o : List ℕ) → t ≤ suc n → has_family p.classes m ≡ true → s.classes ≡ classes_of files → HoldsMade s → IsUnder (hier_in p.classes) s vs class → AllEnter p (chain_of p.classes m class) vs s → (target : Target) →
      ((k : Selecting p files m class vs s) → Reaches p files naming b m class vs s k (call_to target vs)) → (g : ℕ × ℕ) (f on : Frame) (cs : List Running) (push : Bool) → pushes target ≡ Some push →
      Invoked files Fee b.dispatch (st g f cs s) (call_to target vs) push on 0 0 (world t s i o) (select_in p (member_run p n (calls p n)) (calls p n) (chain_of p.classes m class) vs (world t s i o))
  selects n sim m class vs s t i o le declared hs made_all under all target reaches g f on cs push wants = by_shape (shape_in p chain vs s) refl where
    chain : List Candidate
    chain = chain_of p.classes m class

    w0 : World
    w0 = world t s i o

    go : Candidate → Run Value
    go c = after (member_run p n (calls p n) (placed c) vs w0) (fitted c.method.result (calls p n))

    Becomes : Run Value → Type 0
    Becomes = Invoked files Fee b.dispatch (st g f cs s) (call_to target vs) push on 0 0 w0

    by_candidate : (shape : Shape) → shape_in p chain vs s ≡ Some shape → (j : ℕ) → p.select (question_in chain shape) ≡ Selects j → (x : Option Candidate) → slice_get chain j ≡ x → Becomes (there x w0 go)
    by_candidate shape e j e' None z = (0, refl)
    by_candidate shape e j e' (Some c) z =
        let k : Selecting p files m class vs s = record { declared = declared; classes = hs; made = made_all; under = under; shape = shape; shaped = e; index = j; selected = e'; candidate = c; there = z; enters = all j c z } in
        reached n sim m class vs s k t i o le target (reaches k) g f on cs push wants

    by_choice : (shape : Shape) → shape_in p chain vs s ≡ Some shape → (c : Choice) → p.select (question_in chain shape) ≡ c → Becomes (chosen chain c w0 go)
    by_choice shape e (Selects j) e' = by_candidate shape e j e' (slice_get chain j) refl
    by_choice shape e NoneIsTrue e' = (0, refl)
    by_choice shape e NoneIsBest e' = (0, refl)

    by_shape : (x : Option Shape) → shape_in p chain vs s ≡ x → Becomes (there (option_map (λ shape. p.select (question_in chain shape)) x) w0 (λ c. chosen chain c w0 go))
    by_shape None e = (0, refl)
    by_shape (Some shape) e = by_choice shape e (p.select (question_in chain shape)) refl

  next_sim : (n : ℕ) → Sim n → Sim (suc n)
  next_sim n sim class position there_is c w hs made_all fit le = record {
    keeps = calls_keep p (suc n) c w;
    runs = λ g f on cs push wants. by_target g f on cs push c.target c.args fit wants;
  } where
    current : List ℕ
    current = internal_name class.head.name

    s : Store
    s = w.store

    Becomes : ℕ × ℕ → Frame → Frame → List Running → Bool → source.Target → List Value → Run Value → Type 0
    Becomes g f on cs push x vs = Invoked files Fee b.dispatch (st g f cs w.store) (call_to (target_in current x) vs) push on 0 0 w

    by_static : (m : Method) (vs : List Value) (g : ℕ × ℕ) (f on : Frame) (cs : List Running) (push : Bool) → FitsTarget p class.head (source.StaticMethod m) vs w.store → pushes (StaticMethod (key_of_method m)) ≡ Some push →
        (x : Option Placed) → static_named p.classes m ≡ x → Becomes g f on cs push (source.StaticMethod m) vs (there x w (λ q. member_run p n (calls p n) q vs w))
    by_static m vs g f on cs push fit wants None e = (0, refl)
    by_static m vs g f on cs push fit wants (Some q) e =
        (exact n sim (StaticMethod (key_of_method m)) q vs w.store (static_there (key_of_method m) vs) (fit q e) hs made_all (right.static m q e vs w.store hs (fit q e)) w.ticks w.input w.out le 0 b.dispatch (omega arith)).runs g f on cs push wants

    by_constructor : (m : Method) (vs : List Value) (g : ℕ × ℕ) (f on : Frame) (cs : List Running) (push : Bool) → FitsTarget p class.head (source.Constructor m) vs w.store → pushes (Constructor (key_of_method m)) ≡ Some push →
        (x : Option Placed) → constructor_named p.classes m ≡ x → Becomes g f on cs push (source.Constructor m) vs (there x w (λ q. member_run p n (calls p n) q vs w))
    by_constructor m vs g f on cs push fit wants None e = (0, refl)
    by_constructor m vs g f on cs push fit wants (Some q) e =
        (exact n sim (Constructor (key_of_method m)) q vs w.store (object_there (Constructor (key_of_method m)) (hier_in p.classes) w.store vs q.head.name ((fit.1 q e).given.receiver (constructor_received p.classes m q e))) (fit.1 q e) hs made_all (right.constructor m q fit.0 e vs w.store hs (fit.1 q e)) w.ticks w.input w.out le 0 b.dispatch (omega arith)).runs g f on cs push wants

    by_class : (m : Method) (vs : List Value) (g : ℕ × ℕ) (f on : Frame) (cs : List Running) (push : Bool) → ((class : Word) → receiver_class w.store vs ≡ Some class → AllEnter p (chain_of p.classes m class) vs w.store) → pushes (VirtualMethod m.name m.descriptor) ≡ Some push →
        has_family p.classes m ≡ true → (x : Option Word) → receiver_class w.store vs ≡ x → Becomes g f on cs push (source.OfClass m) vs (there x w (λ class. select_in p (member_run p n (calls p n)) (calls p n) (chain_of p.classes m class) vs w))
    by_class m vs g f on cs push fit wants declared None e = (0, refl)
    by_class m vs g f on cs push fit wants declared (Some own) e =
        selects n sim m own vs w.store w.ticks w.input w.out le declared hs made_all (own, e, inl refl) (fit own e) (VirtualMethod m.name m.descriptor) (λ k. right.virtual m own vs w.store k e) g f on cs push wants

    by_family : (m : Method) (vs : List Value) (g : ℕ × ℕ) (f on : Frame) (cs : List Running) (push : Bool) → ((class : Word) → receiver_class w.store vs ≡ Some class → AllEnter p (chain_of p.classes m class) vs w.store) → pushes (VirtualMethod m.name m.descriptor) ≡ Some push →
        (x : Bool) → has_family p.classes m ≡ x → Becomes g f on cs push (source.OfClass m) vs (cond x (there (receiver_class w.store vs) w (λ class. select_in p (member_run p n (calls p n)) (calls p n) (chain_of p.classes m class) vs w)) (Ended IsStuck w))
    by_family m vs g f on cs push fit wants false e = (0, refl)
    by_family m vs g f on cs push fit wants true e = by_class m vs g f on cs push fit wants e (receiver_class w.store vs) refl

    by_above : (m : Method) (vs : List Value) (g : ℕ × ℕ) (f on : Frame) (cs : List Running) (push : Bool) → FitsTarget p class.head (source.OfSuperclass m) vs w.store → pushes (MethodAbove current m.name m.descriptor) ≡ Some push →
        (x : Bool) → has_family p.classes m ≡ x → Becomes g f on cs push (source.OfSuperclass m) vs (cond x (select_in p (member_run p n (calls p n)) (calls p n) (chain_of p.classes m (word_of m.class)) vs w) (Ended IsStuck w))
    by_above m vs g f on cs push fit wants false e = (0, refl)
    by_above m vs g f on cs push fit wants true e =
        selects n sim m (word_of m.class) vs w.store w.ticks w.input w.out le e hs made_all fit.2 fit.3 (MethodAbove current m.name m.descriptor) (λ k. right.above class position there_is m vs w.store k fit.0 fit.1) g f on cs push wants

    by_target : (g : ℕ × ℕ) (f on : Frame) (cs : List Running) (push : Bool) (x : source.Target) (vs : List Value) → FitsTarget p class.head x vs w.store → pushes (target_in current x) ≡ Some push →
        Becomes g f on cs push x vs (call_by p (member_run p n (calls p n)) (calls p n) x vs w)
    by_target g f on cs push (source.StaticMethod m) vs fit wants = by_static m vs g f on cs push fit wants (static_named p.classes m) refl
    by_target g f on cs push (source.Constructor m) vs fit wants = by_constructor m vs g f on cs push fit wants (constructor_named p.classes m) refl
    by_target g f on cs push (source.OfClass m) vs fit wants = by_family m vs g f on cs push fit wants (has_family p.classes m) refl
    by_target g f on cs push (source.OfInterface m) vs fit wants = by_family m vs g f on cs push fit wants (has_family p.classes m) refl
    by_target g f on cs push (source.OfSuperclass m) vs fit wants = by_above m vs g f on cs push fit wants (has_family p.classes m) refl

  sims : (n : ℕ) → Sim n
  sims zero class position there_is c w hs made_all fit le = record { keeps = tt; runs = λ g f on cs push wants. (0, refl, omega arith, omega (arith, le)) }
  sims (suc n) class position there_is c w hs made_all fit le = next_sim n (sims n) class position there_is c w hs made_all fit le

  -- the whole run, by that of `main`
  module _ (input : List ℕ) (n : ℕ) where
    abbrev machine_at : ℕ → Finish
    machine_at limit = machine_run files (internal_name p.main) limit input

    abbrev first : Store
    first = first_store (classes_of files)

    abbrev main_run : Run Value
    main_run = play (calls p (suc n)) (placed_does p (suc n) right.main.member []) (world n first input [])

    starts : (limit : ℕ) → machine_at limit ≡ exec files limit (st right.main.at right.main.frame [] first) input []
    starts limit = ap (from_start files (internal_name p.main) limit input) right.main.starts

    main_enters : Enters p right.main.member [] first
    main_enters = subst (λ (c : List Class). Enters p right.main.member [] (first_store c)) (sym right.classes) (fits.main right.main.member right.main.named)

    main_ran : Ran right.main.file right.main.method right.main.at right.main.file_there right.main.method_there [] (λ j. exec files j (st right.main.at right.main.frame [] first) input []) n main_run
    main_ran = member_out (suc n) (suc n) (sims (suc n)) right.main.member [] first main_enters refl tt right.main.file right.main.method right.main.at right.main.file_there right.main.method_there right.main.frame right.main.enters right.main.has [] n input [] (omega arith) (omega arith)

    ends : (end : MachineEnd) (u : World) (e : End) (j : ℕ) → exec files j (st right.main.at right.main.frame [] first) input [] ≡ record { end = end; input = u.input; out = u.out } →
        EndsAs end input (record { output = u.out; used = length input - length u.input; end = e }) (machine_at j)
    ends end u e j z =
        subst (EndsAs end input (record { output = u.out; used = length input - length u.input; end = e })) (sym (starts j ∙ z)) (record { ended = refl; used = refl; out = refl })

    matched : (r : Run Value) → Keeps (world n first input []) r → Ran right.main.file right.main.method right.main.at right.main.file_there right.main.method_there [] (λ j. exec files j (st right.main.at right.main.frame [] first) input []) n r →
        Matches machine_at (fee b) input n (result_of input r) (result_of input r).end
    matched (Came v u) keeps ran =
        let z = ran.3 in
        let own = ran.1 in
        let y = st right.main.at z.frame [] u.store in
        let k : z.count + 1 ≡ suc z.count = omega arith in
        let e1 : suc n * Fee ≡ Fee + n * Fee = grind arith in
        let e2 : own * Fee ≡ own * b.turn + own * b.dispatch = grind arith in (
          suc z.count,
          ends machine.Done u Done (suc z.count)
              (ap (λ j. exec files j (st right.main.at right.main.frame [] first) input []) (sym k) ∙ z.comes 1 ∙ exec_suc files 0 y u.input u.out
              ∙ ap (on_turn files (exec files 0) u.input u.out) (acts_in files Fee b.dispatch right.main.file right.main.method right.main.at right.main.file_there right.main.method_there [] z.frame [] u.store (Leaves z.given) z.act)),
          omega (arith, z.few, ran.5, e1, e2),
        )
    matched (Ended Done u) keeps ran = absurd keeps
    matched (Ended (Trapped kind) u) keeps ran =
        let z = ran.3 in
        let own = ran.1 in
        let e1 : suc n * Fee ≡ Fee + n * Fee = grind arith in
        let e2 : own * Fee ≡ own * b.turn + own * b.dispatch = grind arith in
        (z.0, ends (machine.Trap kind) u (Trapped kind) z.0 z.1, omega (arith, z.2, ran.5, e1, e2))
    matched (Ended More u) keeps ran =
        let z = ran.3 in
        let own = ran.1 in
        let e1 : suc n * Fee ≡ Fee + n * Fee = grind arith in
        let e2 : own * Fee ≡ own * b.turn + own * b.dispatch = grind arith in
        (z.0, ends machine.Cut u More z.0 z.1, omega (arith, z.3, ran.4), omega (arith, z.2, ran.5, e1, e2))
    matched (Ended NoBody u) keeps ran = (ran.3.0, ends machine.Cut u NoBody ran.3.0 ran.3.1)
    matched (Ended TwoBodies u) keeps ran = (ran.3.0, ends machine.Cut u TwoBodies ran.3.0 ran.3.1)
    matched (Ended IsStuck u) keeps ran = (ran.3.0, ends machine.Cut u IsStuck ran.3.0 ran.3.1)

    -- the meaning's run is that of `main`
    runs_main : run_in p n (first_world p input n) ≡ main_run
    runs_main =
        ap (λ (x : Option Placed). there x (first_world p input n) (λ q. play (calls p (suc n)) (placed_does p (suc n) q []) (first_world p input n))) right.main.named
        ∙ ap (λ (c : List Class). play (calls p (suc n)) (placed_does p (suc n) right.main.member []) (world n (first_store c) input [])) (sym right.classes)

    keeps_meaning : Matches machine_at (fee b) input n (run p input n) (run p input n).end
    keeps_meaning =
        subst (λ (r : Run Value). Matches machine_at (fee b) input n (result_of input r) (result_of input r).end) (sym runs_main)
        (matched main_run (play_keeps (calls p (suc n)) (calls_keep p (suc n)) (placed_does p (suc n) right.main.member []) (world n first input [])) main_ran)

pub right_keeps : RightKeepsTheMeaning
right_keeps p files naming b fits right input n = keeps_meaning p files naming b fits right input n
