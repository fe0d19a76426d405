-- A run with a tick more.
use Rattle.std.proofs.Common.{ℕ, zero, suc, Bool, true, false, cond, List, [], ◌++◌, Option, Some, None, refl, sym, ap, ◌∙◌, arith, append_assoc}
use Rattle.std.specs.Prelude.{slice_get}
use Rattle.std.specs.Fmt.{signed_decimal}
use Rattle.std.proofs.lemmas.List.{append-nil}
use Rattle.jp_store.specs.declared.value.Value.{Value}
use Rattle.jp_store.specs.declared.outcome.Outcome.TheVariants.{Fine, Trap, Wrong}
use Rattle.jp_store.specs.Work.{Worked, work}
use Rattle.jp_does.specs.OpenTrace.{first_of, rest_of}
use Rattle.jp_meaning.specs.Expressions.{fit}
use Rattle.jp_does.specs.Does.{Gives, Traps, Ticks, Prints, Shows, Reads, Works, Calls, Limit, Stuck}
use Rattle.jp_meaning.specs.Does.{Method, Target, StaticMethod, Constructor, OfClass, OfInterface, OfSuperclass, Call, Does}
use Rattle.jp_meaning.specs.Descriptors.{word_of, kind_of_type}
use Rattle.jp_meaning.specs.Classes.{Placed, Candidate, placed, static_named, constructor_named, hier_in, has_family, chain_of}
use Rattle.jp_meaning.specs.Choice.{Choice, Selects, NoneIsTrue, NoneIsBest}
use Rattle.jp_meaning.specs.Run.{End, Done, Trapped, NoBody, TwoBodies, IsStuck, More, World, Run, Came, Ended, after, spend, worked, write, play, Program, receiver_class, selected, there, chosen, select_in, where_declared, call_by, placed_does, member_run, calls, first_world, main_of, run_in, result_of}
use Rattle.jp_meaning.specs.Laws.{Begins, GoesOn, MoreTicksAgree}
use Rattle.jp_meaning.proofs.Cuts.{Cut, cut, gives, traps, ticks, prints, shows, reads, working, calling, stuck, cut_refl}
use Rattle.jp_meaning.proofs.Turns.{member_cut}

abbrev world_of : {A : Type 0} → Run A → World
world_of (Came a w) = w
world_of (Ended e w) = w

begins_refl : (a : List ℕ) → Begins a a
begins_refl a = ([], sym (append-nil a))

begins_trans : (a b c : List ℕ) → Begins a b → Begins b c → Begins a c
begins_trans a b c h k = (h.0 ++ k.0, k.1 ∙ ap (λ l. l ++ k.0) h.1 ∙ append_assoc a h.0 k.0)

-- what is written is never taken back
abbrev Grows : World → {A : Type 0} → Run A → Type 0
Grows w r = Begins w.out (world_of r).out

after_grows : {A B : Type 0} (w : World) (r : Run A) (go : A → World → Run B) → Grows w r → ((a : A) (v : World) → Grows v (go a v)) → Grows w (after r go)
after_grows w (Came a v) go h k = begins_trans w.out v.out _ h (k a v)
after_grows w (Ended e v) go h k = h

spend_grows : {A : Type 0} (w : World) (t : ℕ) (go : World → Run A) → ((v : World) → Grows v (go v)) → Grows w (spend w t go)
spend_grows w zero go h = begins_refl w.out
spend_grows w (suc t) go h = h (record w { ticks = t })

work_grows : {A : Type 0} (w : World) (r : Worked) (go : Value → World → Run A) → ((v : Value) (u : World) → Grows u (go v u)) → Grows w (worked w r go)
work_grows w (Fine r) go h = h r.0 (record w { store = r.1 })
work_grows w (Trap kind) go h = begins_refl w.out
work_grows w Wrong go h = begins_refl w.out

play_grows : {A : Type 0} (call : Call → World → Run Value) → ((c : Call) (w : World) → Grows w (call c w)) → (d : Does A) (w : World) → Grows w (play call d w)
play_grows call h (Gives a) w = begins_refl w.out
play_grows call h (Traps kind) w = begins_refl w.out
play_grows call h (Ticks d) w = spend_grows w w.ticks (play call d) (play_grows call h d)
play_grows call h (Prints n d) w = begins_trans _ _ _ (signed_decimal n, refl) (play_grows call h d (write (signed_decimal n) w))
play_grows call h (Shows text d) w = begins_trans _ _ _ (text, refl) (play_grows call h d (write text w))
play_grows call h (Reads d) w = play_grows call h (d (first_of w.input)) (record w { input = rest_of w.input })
play_grows call h (Works op d) w = work_grows w (work op w.store) (λ v. play call (d v)) (λ v. play_grows call h (d v))
play_grows call h (Calls c d) w = after_grows w (call c w) _ (h c w) (λ v. play_grows call h (d v))
play_grows call h Limit w = begins_refl w.out
play_grows call h Stuck w = begins_refl w.out

there_grows : {A B : Type 0} (o : Option A) (w : World) (go : A → Run B) → ((a : A) → Grows w (go a)) → Grows w (there o w go)
there_grows None w go h = begins_refl w.out
there_grows (Some a) w go h = h a

chosen_grows : {A : Type 0} (chain : List Candidate) (c : Choice) (w : World) (go : Candidate → Run A) → ((b : Candidate) → Grows w (go b)) → Grows w (chosen chain c w go)
chosen_grows chain (Selects i) w go h = there_grows (slice_get chain i) w go h
chosen_grows chain NoneIsTrue w go h = begins_refl w.out
chosen_grows chain NoneIsBest w go h = begins_refl w.out

cond_grows : (b : Bool) (w : World) (go : Run Value) → Grows w go → Grows w (cond b go (Ended IsStuck w))
cond_grows true w go h = h
cond_grows false w go h = begins_refl w.out

declared_grows : (p : Program) (m : Method) (w : World) (go : Run Value) → Grows w go → Grows w (where_declared p m w go)
declared_grows p m w go h = cond_grows (has_family p.classes m) w go h

module _ (p : Program) (n : ℕ) (call : Call → World → Run Value) (grows : (c : Call) (w : World) → Grows w (call c w)) where
  member_grows : (m : Placed) (vs : List Value) (w : World) → Grows w (member_run p n call m vs w)
  member_grows m vs w = spend_grows w w.ticks _ (play_grows call grows (placed_does p (suc n) m vs))

  select_grows : (chain : List Candidate) (vs : List Value) (w : World) → Grows w (select_in p (member_run p n call) call chain vs w)
  select_grows chain vs w = there_grows (selected p chain vs w.store) w _ (λ choice. chosen_grows chain choice w _ (λ c.
      after_grows w (member_run p n call (placed c) vs w) _ (member_grows (placed c) vs w) (λ v. play_grows call grows (fit (kind_of_type c.method.result) v))))

  call_grows : (x : Target) (vs : List Value) (w : World) → Grows w (call_by p (member_run p n call) call x vs w)
  call_grows (StaticMethod m) vs w = there_grows (static_named p.classes m) w _ (λ placed. member_grows placed vs w)
  call_grows (Constructor m) vs w = there_grows (constructor_named p.classes m) w _ (λ placed. member_grows placed vs w)
  call_grows (OfClass m) vs w = declared_grows p m w _ (there_grows (receiver_class w.store vs) w _ (λ class. select_grows (chain_of p.classes m class) vs w))
  call_grows (OfInterface m) vs w = declared_grows p m w _ (there_grows (receiver_class w.store vs) w _ (λ class. select_grows (chain_of p.classes m class) vs w))
  call_grows (OfSuperclass m) vs w = declared_grows p m w _ (select_grows (chain_of p.classes m (word_of m.class)) vs w)

calls_grows : (p : Program) (n : ℕ) (c : Call) (w : World) → Grows w (calls p n c w)
calls_grows p zero c w = begins_refl w.out
calls_grows p (suc n) c w = call_grows p n (calls p n) (calls_grows p n) c.target c.args w

-- a tick more
abbrev one_more : World → World
one_more w = record w { ticks = suc w.ticks }

-- the second run is the first with a tick more left, or the first ended for want of one
data Later {A : Type 0} : Run A → Run A → Type 0 where
  came : (a : A) (w : World) → Later (Came a w) (Came a (one_more w))
  ended : (e : End) (w : World) → Later (Ended e w) (Ended e (one_more w))
  more : (w : World) (r : Run A) → Grows w r → Later (Ended More w) r

after_later : {A B : Type 0} {r s : Run A} (go next : A → World → Run B) → Later r s → ((a : A) (w : World) → Later (go a w) (next a (one_more w))) → ((a : A) (w : World) → Grows w (next a w)) → Later (after r go) (after s next)
after_later go next (came a w) h k = h a w
after_later go next (ended e w) h k = ended e w
after_later go next (more w r g) h k = more w _ (after_grows w r next g k)

spend_later : {A : Type 0} (w : World) (t : ℕ) (go next : World → Run A) → ((v : World) → Later (go v) (next (one_more v))) → ((v : World) → Grows v (next v)) → Later (spend w t go) (spend (one_more w) (suc t) next)
spend_later w zero go next h k = more w _ (k (record w { ticks = zero }))
spend_later w (suc t) go next h k = h (record w { ticks = t })

work_later : {A : Type 0} (w : World) (r : Worked) (go next : Value → World → Run A) → ((v : Value) (u : World) → Later (go v u) (next v (one_more u))) → Later (worked w r go) (worked (one_more w) r next)
work_later w (Fine r) go next h = h r.0 (record w { store = r.1 })
work_later w (Trap kind) go next h = ended (Trapped kind) w
work_later w Wrong go next h = ended IsStuck w

module _ (call call' : Call → World → Run Value) (later : (c : Call) (w : World) → Later (call c w) (call' c (one_more w))) (grows : (c : Call) (w : World) → Grows w (call' c w)) where
  play_later : {A : Type 0} {d e : Does A} → Cut d e → (w : World) → Later (play call d w) (play call' e (one_more w))
  play_later (cut e) w = more w _ (play_grows call' grows e (one_more w))
  play_later (gives a) w = came a w
  play_later (traps kind) w = ended (Trapped kind) w
  play_later (ticks {d = d} {e = e} c) w = spend_later w w.ticks (play call d) (play call' e) (play_later c) (play_grows call' grows e)
  play_later (prints n c) w = play_later c (write (signed_decimal n) w)
  play_later (shows text c) w = play_later c (write text w)
  play_later (reads c) w = play_later (c (first_of w.input)) (record w { input = rest_of w.input })
  play_later (working op {d = d} {e = e} c) w = work_later w (work op w.store) (λ v. play call (d v)) (λ v. play call' (e v)) (λ v. play_later (c v))
  play_later (calling f {e = e} c) w = after_later _ _ (later f w) (λ v. play_later (c v)) (λ v. play_grows call' grows (e v))
  play_later stuck w = ended IsStuck w

there_later : {A B : Type 0} (o : Option A) (w : World) (go next : A → Run B) → ((a : A) → Later (go a) (next a)) → Later (there o w go) (there o (one_more w) next)
there_later None w go next h = ended IsStuck w
there_later (Some a) w go next h = h a

chosen_later : {A : Type 0} (chain : List Candidate) (c : Choice) (w : World) (go next : Candidate → Run A) → ((b : Candidate) → Later (go b) (next b)) → Later (chosen chain c w go) (chosen chain c (one_more w) next)
chosen_later chain (Selects i) w go next h = there_later (slice_get chain i) w go next h
chosen_later chain NoneIsTrue w go next h = ended NoBody w
chosen_later chain NoneIsBest w go next h = ended TwoBodies w

cond_later : (b : Bool) (w : World) (go next : Run Value) → Later go next → Later (cond b go (Ended IsStuck w)) (cond b next (Ended IsStuck (one_more w)))
cond_later true w go next h = h
cond_later false w go next h = ended IsStuck w

declared_later : (p : Program) (m : Method) (w : World) (go next : Run Value) → Later go next → Later (where_declared p m w go) (where_declared p m (one_more w) next)
declared_later p m w go next h = cond_later (has_family p.classes m) w go next h

module _ (p : Program) (n : ℕ) (later : (c : Call) (w : World) → Later (calls p n c w) (calls p (suc n) c (one_more w))) where
  member_later : (m : Placed) (vs : List Value) (w : World) → Later (member_run p n (calls p n) m vs w) (member_run p (suc n) (calls p (suc n)) m vs (one_more w))
  member_later m vs w = spend_later w w.ticks (play (calls p n) (placed_does p (suc n) m vs)) (play (calls p (suc n)) (placed_does p (suc (suc n)) m vs))
      (play_later (calls p n) (calls p (suc n)) later (calls_grows p (suc n)) (member_cut (hier_in p.classes) m.head m.member (suc n) (suc (suc n)) (omega arith) vs))
      (play_grows (calls p (suc n)) (calls_grows p (suc n)) (placed_does p (suc (suc n)) m vs))

  select_later : (chain : List Candidate) (vs : List Value) (w : World) → Later (select_in p (member_run p n (calls p n)) (calls p n) chain vs w) (select_in p (member_run p (suc n) (calls p (suc n))) (calls p (suc n)) chain vs (one_more w))
  select_later chain vs w = there_later (selected p chain vs w.store) w _ _ (λ choice. chosen_later chain choice w _ _ (λ c.
      after_later _ _ (member_later (placed c) vs w)
      (λ v. play_later (calls p n) (calls p (suc n)) later (calls_grows p (suc n)) (cut_refl (fit (kind_of_type c.method.result) v)))
      (λ v. play_grows (calls p (suc n)) (calls_grows p (suc n)) (fit (kind_of_type c.method.result) v))))

  call_later : (x : Target) (vs : List Value) (w : World) → Later (call_by p (member_run p n (calls p n)) (calls p n) x vs w) (call_by p (member_run p (suc n) (calls p (suc n))) (calls p (suc n)) x vs (one_more w))
  call_later (StaticMethod m) vs w = there_later (static_named p.classes m) w _ _ (λ placed. member_later placed vs w)
  call_later (Constructor m) vs w = there_later (constructor_named p.classes m) w _ _ (λ placed. member_later placed vs w)
  call_later (OfClass m) vs w = declared_later p m w _ _ (there_later (receiver_class w.store vs) w _ _ (λ class. select_later (chain_of p.classes m class) vs w))
  call_later (OfInterface m) vs w = declared_later p m w _ _ (there_later (receiver_class w.store vs) w _ _ (λ class. select_later (chain_of p.classes m class) vs w))
  call_later (OfSuperclass m) vs w = declared_later p m w _ _ (select_later (chain_of p.classes m (word_of m.class)) vs w)

calls_later : (p : Program) (n : ℕ) (c : Call) (w : World) → Later (calls p n c w) (calls p (suc n) c (one_more w))
calls_later p zero c w = more w _ (calls_grows p 1 c (one_more w))
calls_later p (suc n) c w = call_later p n (calls_later p n) c.target c.args w

run_later : (p : Program) (n : ℕ) (w : World) → Later (run_in p n w) (run_in p (suc n) (one_more w))
run_later p n w = there_later (static_named p.classes (main_of p.main)) w _ _ (λ m.
    play_later (calls p (suc n)) (calls p (suc (suc n))) (calls_later p (suc n)) (calls_grows p (suc (suc n)))
    (member_cut (hier_in p.classes) m.head m.member (suc n) (suc (suc n)) (omega arith) []) w)

settled : (input : List ℕ) {r s : Run Value} → Later r s → GoesOn (result_of input r).end (result_of input r) (result_of input s)
settled input (came a w) = refl
settled input (ended Done w) = refl
settled input (ended (Trapped kind) w) = refl
settled input (ended NoBody w) = refl
settled input (ended TwoBodies w) = refl
settled input (ended IsStuck w) = refl
settled input (ended More w) = begins_refl w.out
settled input (more w r g) = output_of r g where
  output_of : (r : Run Value) → Grows w r → Begins w.out (result_of input r).output
  output_of (Came a v) g = g
  output_of (Ended e v) g = g

pub more_ticks_agree : MoreTicksAgree
more_ticks_agree p input n = settled input (run_later p n (first_world p input n))
