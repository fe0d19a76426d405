-- Open traces from what code follows.
use Rattle.std.proofs.Common.{◌≡◌, ℕ, zero, suc, ◌+◌, ◌-◌, ◌*◌, ◌≤◌, inl, inr, List, [], ◌∷◌, length, Option, Some, None, refl, sym, ap, ◌∙◌, subst, arith}
use Rattle.std.specs.Prelude.{Bool, true, false, is_some, unwrap_or}
use Rattle.std.proofs.lemmas.Bool.{false≢true}
use Rattle.jp_store.specs.declared.value.Value.{Value}
use Rattle.jp_store.specs.declared.value.Value.TheVariants.{Ref}
use Rattle.jp_store.specs.declared.value.ClassAt.{ClassAt}
use Rattle.jp_store.specs.declared.heap.Thing.TheVariants.{Object}
use Rattle.jp_store.specs.declared.outcome.Outcome.TheVariants.{Fine, Trap, Wrong}
use Rattle.jp_store.specs.Store.{Store}
use Rattle.jp_store.specs.Outcome.{on_some}
use Rattle.jp_store.specs.Classes.{class_at, first_values}
use Rattle.jp_store.specs.Work.{Op, GetField, PutField, GetStatic, PutStatic, MakeObject, MakeArray, GetElem, PutElem, Length, InstanceOf, Cast, Worked, where_true, made, is_concrete, work}
use Rattle.jp_does.specs.Does.{Gives, Traps, Ticks, Prints, Shows, Reads, Works, Calls, Limit, Stuck}
use Rattle.jp_does.specs.OpenTrace.{Answer, Answers, Ends, Called, Printed, Showed, WasRead, Returned, Trapped, Ended, UsedUp, IsStuck, Trace, first_of, rest_of, ends_as, behind, turned, changed, open_trace}
use Rattle.jp_meaning.specs.Does as source
use Rattle.jp_meaning.specs.Does.{Does}
use Rattle.jp_meaning.specs.Run.{End}
use Rattle.jp_meaning.specs.States.{given}
use Rattle.jvm_table.specs.declared.frame.Frame.{Frame}
use Rattle.jvm_table.specs.Act.{Act, Call, ShowsInt, ShowsText, Asks, Effects, Invokes, Leaves, Fails, answered}
use Rattle.code_trace.specs.Calls.{call_in}
use Rattle.code_trace.specs.CodeTrace.{with_read, on_frame, act_does, code_does, trace_from}
use Rattle.code_trace.specs.OpenTraces.{IsTraceOf}
use Rattle.code_trace.specs.Follows.{Steps, Comes, Onward, MayAnswer, Follows, Leaving, IsDeep}
use Rattle.code_trace.specs.Laws.{WhatFollowsHasTraces}

-- so many turns more
abbrev later : ℕ → Trace Call End → Trace Call End
later k t = record t { turns = k + t.turns }

pub less_deep : {A : Type 0} (d : Does A) (m n : ℕ) → m ≤ n → IsDeep n d → IsDeep m d
less_deep (Gives a) m n le h = tt
less_deep (Traps t) m n le h = tt
less_deep (Ticks d) m n le h = less_deep d (m - 1) (n - 1) (omega arith) h
less_deep (Prints v d) m n le h = less_deep d m n le h
less_deep (Shows v d) m n le h = less_deep d m n le h
less_deep (Reads d) m n le h = λ v. less_deep (d v) m n le (h v)
less_deep (Works op d) m n le h = λ v. less_deep (d v) m n le (h v)
less_deep (Calls c d) m n le h = λ v. less_deep (d v) m n le (h v)
less_deep Limit m n le h = omega arith
less_deep Stuck m n le h = tt

-- what an operation on the store answers
may_answer : (op : Op) (s : Store) (v : Value) (u : Store) → work op s ≡ Fine (v, u) → MayAnswer op v
may_answer (MakeObject name) s v u e = by_class (class_at s.classes name) e where
  by_concrete : (class : ClassAt) (b : Bool) → where_true b (made s (Object class (first_values s.classes class))) ≡ Fine (v, u) → (o : ℕ) × (v ≡ Ref o)
  by_concrete class true e = (length s.heap, sym (ap (λ (o : Option Value). unwrap_or o v) (ap given e)))
  by_concrete class false e = absurd (false≢true (ap (λ (r : Worked). is_some (given r)) e))

  by_class : (o : Option ClassAt) → on_some o (λ class. where_true (is_concrete s.classes class) (made s (Object class (first_values s.classes class)))) ≡ Fine (v, u) → (o : ℕ) × (v ≡ Ref o)
  by_class None e = absurd (false≢true (ap (λ (r : Worked). is_some (given r)) e))
  by_class (Some class) e = by_concrete class (is_concrete s.classes class) e
may_answer (GetField r key) s v u e = tt
may_answer (PutField r key x) s v u e = tt
may_answer (GetStatic key) s v u e = tt
may_answer (PutStatic key x) s v u e = tt
may_answer (MakeArray elements size) s v u e = tt
may_answer (GetElem kind r index) s v u e = tt
may_answer (PutElem kind r index x) s v u e = tt
may_answer (Length r) s v u e = tt
may_answer (InstanceOf r name) s v u e = tt
may_answer (Cast r name) s v u e = tt

module _ (run : Frame → Act) (current : List ℕ) (more : ℕ) where
  abbrev Has : ℕ → Frame → List (Answer End) → Store → List ℕ → Trace source.Call End → Type 0
  Has b f ans s i wanted = (n : ℕ) × IsTraceOf current (trace_from run f n ans s i) wanted b more

  does_on : (k n : ℕ) (f to : Frame) (ans : List (Answer End)) (s : Store) (i : List ℕ) → Steps run k f to → trace_from run f (k + n) ans s i ≡ later k (trace_from run to n ans s i)
  does_on zero n f to ans s i e =
      let z : zero + n ≡ n = omega arith in
      let z' : (trace_from run to n ans s i).turns ≡ zero + (trace_from run to n ans s i).turns = omega arith in
      ap (λ j. trace_from run f j ans s i) z ∙ ap (λ g. trace_from run g n ans s i) e ∙ ap (λ j. record (trace_from run to n ans s i) { turns = j }) z'
  does_on (suc k) n f to ans s i r =
      let z : suc k + n ≡ suc (k + n) = omega arith in
      let z' : suc (k + (trace_from run to n ans s i).turns) ≡ suc k + (trace_from run to n ans s i).turns = omega arith in
      ap (λ j. trace_from run f j ans s i) z
      ∙ ap (λ a. open_trace {E = End} (suc (k + n)) ans s i (act_does (code_does run (k + n)) a)) r.1
      ∙ ap turned (does_on k n r.0 to ans s i r.2)
      ∙ ap (λ j. record (trace_from run to n ans s i) { turns = j }) z'

  -- silent instructions, and one more
  then_act : (b c : ℕ) (f to : Frame) (a : Act) (ans : List (Answer End)) (s : Store) (i : List ℕ) → (l : Comes run b f c to) → run to ≡ a → (n : ℕ) → trace_from run f (l.count + suc n) ans s i ≡ later l.count (open_trace (suc n) ans s i (act_does (code_does run n) a))
  then_act b c f to a ans s i l e n = does_on l.count (suc n) f to ans s i l.steps ∙ ap (λ x. later l.count (open_trace {E = End} (suc n) ans s i (act_does (code_does run n) x))) e

  -- from a frame on, if there is one
  abbrev next : Option Frame → ℕ → List (Answer End) → Store → List ℕ → Trace Call End
  next o n ans s i = open_trace n ans s i (on_frame o (code_does run n))

  -- where there is no room for the answer of the store
  no_room : (b : ℕ) (f : Frame) (t : ℕ) (ans : List (Answer End)) (s u : Store) (i : List ℕ) (d : Does Value) → d ≡ Stuck → Has b f ans s i (open_trace t ans u i d)
  no_room b f t ans s u i d e =
      subst (λ x. Has b f ans s i (open_trace t ans u i x)) (sym e) (0, record { events = refl; way = inl refl; least = omega arith; most = omega arith })

  -- what goes on with an answer of the store
  worked : (b c : ℕ) (f to on : Frame) (push : Bool) (op : _) (d : Value → Does Value) (t : ℕ) (ans : List (Answer End)) (s : Store) (i : List ℕ) → Comes run b f (suc c) to → run to ≡ Effects op push on →
      (v : Value) (u : Store) → work op s ≡ Fine (v, u) → (o : Option Frame) → answered push v on ≡ o → ((g : Frame) → Follows run current more (Leaving run) c g (d v) → Has c g ans u i (open_trace t ans u i (d v))) →
      Onward o (d v) (λ g. Follows run current more (Leaving run) c g (d v)) → Has b f ans s i (open_trace t ans u i (d v))
  worked b c f to on push op d t ans s i l e v u w None a rec r = no_room b f t ans s u i (d v) r
  worked b c f to on push op d t ans s i l e v u w (Some g) a rec r =
      let h = rec g r in (
        l.count + suc h.0,
        subst (λ x. IsTraceOf current x (open_trace t ans u i (d v)) b more)
            (sym (then_act b (suc c) f to (Effects op push on) ans s i l e h.0
            ∙ ap (λ y. later l.count (turned (changed y (λ v u. next (answered push v on) h.0 ans u i)))) w
            ∙ ap (λ y. later l.count (turned (next y h.0 ans u i))) a))
            (record { events = h.1.events; way = h.1.way; least = omega (arith, h.1.least); most = omega (arith, h.1.most, l.paid) }),
      )

  -- what goes on with the answer of a call
  called : (b c : ℕ) (f to on : Frame) (push : Bool) (call : source.Call) (d : Value → Does Value) (t : ℕ) (ans : List (Answer End)) (s u : Store) (i j : List ℕ) → (v : Value) (more' : List (Answer End)) →
      (l : Comes run b f (suc c) to) → ((n : ℕ) → trace_from run f (l.count + suc n) ans s i ≡ later l.count (turned (behind (Called (call_in current call) s i) (next (answered push v on) n more' u j)))) →
      (o : Option Frame) → answered push v on ≡ o → ((g : Frame) → Follows run current more (Leaving run) c g (d v) → Has c g more' u j (open_trace t more' u j (d v))) →
      Onward o (d v) (λ g. Follows run current more (Leaving run) c g (d v)) → Has b f ans s i (behind (Called call s i) (open_trace t more' u j (d v)))
  called b c f to on push call d t ans s u i j v more' l e None a rec r =
      subst (λ x. Has b f ans s i (behind (Called call s i) (open_trace t more' u j x))) (sym r) (
        l.count + 1,
        subst (λ x. IsTraceOf current x (behind (Called call s i) (ends_as IsStuck)) b more)
            (sym (e 0 ∙ ap (λ y. later l.count (turned (behind (Called (call_in current call) s i) (next y 0 more' u j)))) a))
            (record { events = refl; way = inr refl; least = omega arith; most = omega (arith, l.paid) }),
      )
  called b c f to on push call d t ans s u i j v more' l e (Some g) a rec r =
      let h = rec g r in (
        l.count + suc h.0,
        subst (λ x. IsTraceOf current x (behind (Called call s i) (open_trace t more' u j (d v))) b more)
            (sym (e h.0 ∙ ap (λ y. later l.count (turned (behind (Called (call_in current call) s i) (next y h.0 more' u j)))) a))
            (record { events = ap (λ es. Called (call_in current call) s i ∷ es) h.1.events; way = h.1.way; least = omega (arith, h.1.least); most = omega (arith, h.1.most, l.paid) }),
      )

  traces_of : (d : Does Value) (b : ℕ) (f : Frame) (t : ℕ) (ans : List (Answer End)) (s : Store) (i : List ℕ) → IsDeep (suc t) d → Follows run current more (Leaving run) b f d → Has b f ans s i (open_trace t ans s i d)
  traces_of (Gives v) b f t ans s i deep r =
      let q = r.3 in (
        r.2.count + 1,
        subst (λ x. IsTraceOf current x (ends_as (Returned v s i)) b more)
            (sym (then_act b r.0 f r.1 (Leaves q.1) ans s i r.2 q.2 0 ∙ ap (λ y. later r.2.count (turned (ends_as (Returned y s i)))) q.3))
            (record { events = refl; way = refl; least = omega arith; most = omega (arith, r.2.paid, r.3.0) }),
      )
  traces_of (Traps k) b f t ans s i deep r = (
    r.2.count + 1,
    subst (λ x. IsTraceOf current x (ends_as (Trapped k)) b more)
        (sym (then_act b (suc r.0) f r.1 (Fails k) ans s i r.2 r.3 0))
        (record { events = refl; way = refl; least = omega arith; most = omega (arith, r.2.paid) }),
  )
  traces_of (Ticks d) b f zero ans s i deep r = (0, record { events = refl; way = refl; least = omega arith; most = omega arith })
  traces_of (Ticks d) b f (suc t) ans s i deep r =
      let h = traces_of d (r.0 + more) r.1 t ans s i (less_deep d (suc t) (suc (suc t) - 1) (omega arith) deep) r.4 in
      let T = open_trace {E = End} t ans s i d in
      let m : suc T.turns * more ≡ more + T.turns * more = grind arith in (
        r.2.count + h.0,
        subst (λ x. IsTraceOf current x (turned T) b more) (sym (does_on r.2.count h.0 f r.1 ans s i r.2.steps))
            (record { events = h.1.events; way = h.1.way; least = omega (arith, h.1.least, r.2.paid, r.3); most = omega (arith, h.1.most, r.2.paid, m) }),
      )
  traces_of (Prints v d) b f t ans s i deep r =
      let h = traces_of d r.0 r.2 t ans s i deep r.5 in (
        r.3.count + suc h.0,
        subst (λ x. IsTraceOf current x (behind (Printed v) (open_trace t ans s i d)) b more) (sym (then_act b (suc r.0) f r.1 (ShowsInt v r.2) ans s i r.3 r.4 h.0))
            (record { events = ap (λ es. Printed v ∷ es) h.1.events; way = h.1.way; least = omega (arith, h.1.least); most = omega (arith, h.1.most, r.3.paid) }),
      )
  traces_of (Shows text d) b f t ans s i deep r =
      let h = traces_of d r.0 r.2 t ans s i deep r.5 in (
        r.3.count + suc h.0,
        subst (λ x. IsTraceOf current x (behind (Showed text) (open_trace t ans s i d)) b more) (sym (then_act b (suc r.0) f r.1 (ShowsText text r.2) ans s i r.3 r.4 h.0))
            (record { events = ap (λ es. Showed text ∷ es) h.1.events; way = h.1.way; least = omega (arith, h.1.least); most = omega (arith, h.1.most, r.3.paid) }),
      )
  traces_of (Reads d) b f t ans s i deep r =
      let v = first_of i in
      let h = traces_of (d v) r.0 (with_read v r.2) t ans s (rest_of i) (deep v) (r.5 v) in (
        r.3.count + suc h.0,
        subst (λ x. IsTraceOf current x (behind (WasRead v) (open_trace t ans s (rest_of i) (d v))) b more) (sym (then_act b (suc r.0) f r.1 (Asks r.2) ans s i r.3 r.4 h.0))
            (record { events = ap (λ es. WasRead v ∷ es) h.1.events; way = h.1.way; least = omega (arith, h.1.least); most = omega (arith, h.1.most, r.3.paid) }),
      )
  traces_of (Works op d) b f t ans s i deep r =
      by_work (work op s) refl (λ v u e. worked b r.0 f r.1 r.2 r.3 op d t ans s i r.4 r.5 v u e (answered r.3 v r.2) refl (λ g k. traces_of (d v) r.0 g t ans u i (deep v) k) (r.6 v (may_answer op s v u e))) where
        by_work : (x : Worked) → work op s ≡ x → ((v : Value) (u : Store) → work op s ≡ Fine (v, u) → Has b f ans s i (open_trace t ans u i (d v))) → Has b f ans s i (changed x (λ v u. open_trace t ans u i (d v)))
        by_work (Fine z) e rec = rec z.0 z.1 e
        by_work (Trap k) e rec = (
          r.4.count + 1,
          subst (λ x. IsTraceOf current x (ends_as (Trapped k)) b more)
              (sym (then_act b (suc r.0) f r.1 (Effects op r.3 r.2) ans s i r.4 r.5 0 ∙ ap (λ y. later r.4.count (turned (changed y (λ v u. next (answered r.3 v r.2) 0 ans u i)))) e))
              (record { events = refl; way = refl; least = omega arith; most = omega (arith, r.4.paid) }),
        )
        by_work Wrong e rec = (0, record { events = refl; way = inl refl; least = omega arith; most = omega arith })
  traces_of (Calls c d) b f t ans s i deep r = by_answers ans (λ v u j ans' e. called b r.0 f r.1 r.2 r.3 c d t ans s u i j v ans' r.4 e (answered r.3 v r.2) refl (λ g k. traces_of (d v) r.0 g t ans' u j (deep v) k) (r.6 v)) where
    out : (ans : List (Answer End)) (n : ℕ) → trace_from run f (r.4.count + suc n) ans s i ≡ later r.4.count (open_trace (suc n) ans s i (Ticks (Calls (call_in current c) (λ v. on_frame (answered r.3 v r.2) (code_does run n)))))
    out ans n = then_act b (suc r.0) f r.1 (Invokes (call_in current c) r.3 r.2) ans s i r.4 r.5 n

    by_answers : (ans : List (Answer End)) →
        ((v : Value) (u : Store) (j : List ℕ) (ans' : List (Answer End)) → ((n : ℕ) → trace_from run f (r.4.count + suc n) ans s i ≡ later r.4.count (turned (behind (Called (call_in current c) s i) (next (answered r.3 v r.2) n ans' u j)))) → Has b f ans s i (behind (Called c s i) (open_trace t ans' u j (d v)))) →
        Has b f ans s i (open_trace t ans s i (Calls c d))
    by_answers [] rec = (r.4.count + 1, subst (λ x. IsTraceOf current x (behind (Called c s i) (ends_as UsedUp)) b more) (sym (out [] 0)) (record { events = refl; way = refl; least = omega arith; most = omega (arith, r.4.paid) }))
    by_answers (Ends e ∷ ans) rec = (r.4.count + 1, subst (λ x. IsTraceOf current x (behind (Called c s i) (ends_as (Ended e))) b more) (sym (out (Ends e ∷ ans) 0)) (record { events = refl; way = refl; least = omega arith; most = omega (arith, r.4.paid) }))
    by_answers (Answers v heap statics j ∷ ans) rec = rec v (record s { heap = heap; statics = statics }) j ans (λ n. out (Answers v heap statics j ∷ ans) n)
  traces_of Limit b f t ans s i deep r = absurd (omega (arith, deep))
  traces_of Stuck b f t ans s i deep r = (0, record { events = refl; way = inl refl; least = omega arith; most = omega arith })

pub traces : WhatFollowsHasTraces
traces run current more d b f t ans s i deep r = traces_of run current more d b f t ans s i deep r
