-- How what code does is put together.
use Rattle.std.proofs.Common.{◌≡◌, ℕ, zero, suc, ◌+◌, ◌-◌, ◌≤◌, List, Option, Some, None, refl, sym, ap, subst, arith}
use Rattle.std.specs.Prelude.{ℤ, Bool}
use Rattle.jp_store.specs.declared.value.Value.{Value}
use Rattle.jp_store.specs.declared.value.TrapKind.{TrapKind}
use Rattle.jp_store.specs.declared.outcome.Outcome.{Outcome}
use Rattle.jp_store.specs.declared.outcome.Outcome.TheVariants.{Fine, Trap, Wrong}
use Rattle.jp_store.specs.Work.{Op}
use Rattle.jp_does.specs.Does.{Gives, Traps, Ticks, Prints, Shows, Reads, Works, Calls, Limit, Stuck, then_do, do_of}
use Rattle.jp_meaning.specs.Does.{Call, Does}
use Rattle.jvm_table.specs.declared.frame.Frame.{Frame}
use Rattle.jvm_table.specs.Act.{Act, Moves, ShowsInt, ShowsText, Asks, Effects, Invokes, Fails, answered, acted}
use Rattle.code_trace.specs.Calls.{call_in}
use Rattle.code_trace.specs.CodeTrace.{with_read}
use Rattle.code_trace.specs.Follows.{Steps, Comes, Onward, MayAnswer, Follows}

-- an evaluation that is stuck where the other is, and goes on where the other does
pub onward : {A B : Type 0} (o : Option Frame) (d : Does A) (e : Does B) (go next : Frame → Type 0) → (d ≡ Stuck → e ≡ Stuck) → ((g : Frame) → go g → next g) → Onward o d go → Onward o e next
onward None d e go next k h r = k r
onward (Some g) d e go next k h r = h g r

-- what an operation gives is as it says
abbrev pub Gives_as : {A : Type 0} → (A → Type 0) → Outcome A → Type 0
Gives_as P (Fine a) = P a
Gives_as P (Trap kind) = Unit {0}
Gives_as P Wrong = Unit {0}

module _ (run : Frame → Act) where
  pub stays : (b : ℕ) (f : Frame) → Comes run b f b f
  stays b f = record { count = zero; steps = refl; paid = omega arith }

  steps_on : (k j : ℕ) (f mid to : Frame) → Steps run k f mid → Steps run j mid to → Steps run (k + j) f to
  steps_on zero j f mid to e r = let n : j ≡ zero + j = omega arith in subst (λ k. Steps run k f to) n (subst (λ g. Steps run j g to) (sym e) r)
  steps_on (suc k) j f mid to s r =
      let n : suc (k + j) ≡ suc k + j = omega arith in
      subst (λ k. Steps run k f to) n (s.0, s.1, steps_on k j s.0 mid to s.2 r)

  pub comes_on : (b c d : ℕ) (f mid to : Frame) → Comes run b f c mid → Comes run c mid d to → Comes run b f d to
  comes_on b c d f mid to l m =
      record { count = l.count + m.count; steps = steps_on l.count m.count f mid to l.steps m.steps; paid = omega (arith, l.paid, m.paid) }

  pub one : (b : ℕ) (f to : Frame) → run f ≡ Moves to → Comes run (suc b) f b to
  one b f to e = record { count = 1; steps = (to, e, refl); paid = omega arith }

  module _ (current : List ℕ) (more : ℕ) where
    -- first some instructions
    pub first : {A : Type 0} (Q : A → ℕ → Frame → Type 0) (b c : ℕ) (f mid : Frame) (d : Does A) → Comes run b f c mid → Follows run current more Q c mid d → Follows run current more Q b f d
    first Q b c f mid (Gives a) l r = (r.0, r.1, comes_on b c r.0 f mid r.1 l r.2, r.3)
    first Q b c f mid (Traps t) l r = (r.0, r.1, comes_on b c (suc r.0) f mid r.1 l r.2, r.3)
    first Q b c f mid (Ticks d) l r = (r.0, r.1, comes_on b c r.0 f mid r.1 l r.2, omega (arith, l.paid, r.3), r.4)
    first Q b c f mid (Prints n d) l r = (r.0, r.1, r.2, comes_on b c (suc r.0) f mid r.1 l r.3, r.4, r.5)
    first Q b c f mid (Shows n d) l r = (r.0, r.1, r.2, comes_on b c (suc r.0) f mid r.1 l r.3, r.4, r.5)
    first Q b c f mid (Reads d) l r = (r.0, r.1, r.2, comes_on b c (suc r.0) f mid r.1 l r.3, r.4, r.5)
    first Q b c f mid (Works op d) l r = (r.0, r.1, r.2, r.3, comes_on b c (suc r.0) f mid r.1 l r.4, r.5, r.6)
    first Q b c f mid (Calls g d) l r = (r.0, r.1, r.2, r.3, comes_on b c (suc r.0) f mid r.1 l r.4, r.5, r.6)
    first Q b c f mid Limit l r = tt
    first Q b c f mid Stuck l r = tt

    -- one evaluation after another
    pub seq : {A B : Type 0} (Q : A → ℕ → Frame → Type 0) (R : B → ℕ → Frame → Type 0) (go : A → Does B) → ((a : A) (c : ℕ) (to : Frame) → Q a c to → Follows run current more R c to (go a)) → (d : Does A) (b : ℕ) (f : Frame) → Follows run current more Q b f d → Follows run current more R b f (then_do d go)
    seq Q R go h (Gives a) b f r = first R b r.0 f r.1 (go a) r.2 (h a r.0 r.1 r.3)
    seq Q R go h (Traps t) b f r = r
    seq Q R go h (Ticks d) b f r = (r.0, r.1, r.2, r.3, seq Q R go h d (r.0 + more) r.1 r.4)
    seq Q R go h (Prints n d) b f r = (r.0, r.1, r.2, r.3, r.4, seq Q R go h d r.0 r.2 r.5)
    seq Q R go h (Shows n d) b f r = (r.0, r.1, r.2, r.3, r.4, seq Q R go h d r.0 r.2 r.5)
    seq Q R go h (Reads d) b f r = (r.0, r.1, r.2, r.3, r.4, λ v. seq Q R go h (d v) r.0 (with_read v r.2) (r.5 v))
    seq Q R go h (Works op d) b f r = (
      r.0,
      r.1,
      r.2,
      r.3,
      r.4,
      r.5,
      λ v may. onward (answered r.3 v r.2) (d v) (then_do (d v) go) (λ g. Follows run current more Q r.0 g (d v)) _
          (λ e. ap (λ x. then_do x go) e) (λ g k. seq Q R go h (d v) r.0 g k) (r.6 v may),
    )
    seq Q R go h (Calls c d) b f r = (
      r.0,
      r.1,
      r.2,
      r.3,
      r.4,
      r.5,
      λ v. onward (answered r.3 v r.2) (d v) (then_do (d v) go) (λ g. Follows run current more Q r.0 g (d v)) _
          (λ e. ap (λ x. then_do x go) e) (λ g k. seq Q R go h (d v) r.0 g k) (r.6 v),
    )
    seq Q R go h Limit b f r = tt
    seq Q R go h Stuck b f r = tt

    -- nothing more is done
    pub stop : {A : Type 0} (Q : A → ℕ → Frame → Type 0) (b : ℕ) (f : Frame) (a : A) → Q a b f → Follows run current more Q b f (Gives a)
    stop Q b f a q = (b, f, stays b f, q)

    -- one silent instruction
    pub moves : {A : Type 0} (Q : A → ℕ → Frame → Type 0) (b : ℕ) (f to : Frame) (d : Does A) → 1 ≤ b → run f ≡ Moves to → Follows run current more Q (b - 1) to d → Follows run current more Q b f d
    moves Q b f to d le e r =
        let n : suc (b - 1) ≡ b = omega arith in
        first Q b (b - 1) f to d (subst (λ k. Comes run k f (b - 1) to) n (one (b - 1) f to e)) r

    -- one that does something to the store, or calls
    pub works_on : {A : Type 0} (Q : A → ℕ → Frame → Type 0) (b : ℕ) (f on : Frame) (op : Op) (push : Bool) (d : Value → Does A) → 1 ≤ b → run f ≡ Effects op push on → ((v : Value) → MayAnswer op v → Onward (answered push v on) (d v) (λ g. Follows run current more Q (b - 1) g (d v))) → Follows run current more Q b f (Works op d)
    works_on Q b f on op push d le e r = (b - 1, f, on, push, record { count = zero; steps = refl; paid = omega arith }, e, r)

    pub calls_on : {A : Type 0} (Q : A → ℕ → Frame → Type 0) (b : ℕ) (f on : Frame) (c : Call) (push : Bool) (d : Value → Does A) → 1 ≤ b → run f ≡ Invokes (call_in current c) push on → ((v : Value) → Onward (answered push v on) (d v) (λ g. Follows run current more Q (b - 1) g (d v))) → Follows run current more Q b f (Calls c d)
    calls_on Q b f on c push d le e r = (b - 1, f, on, push, record { count = zero; steps = refl; paid = omega arith }, e, r)

    -- one that prints or reads
    pub shows_on : {A : Type 0} (Q : A → ℕ → Frame → Type 0) (b : ℕ) (f on : Frame) (n : ℤ) (d : Does A) → 1 ≤ b → run f ≡ ShowsInt n on → Follows run current more Q (b - 1) on d → Follows run current more Q b f (Prints n d)
    shows_on Q b f on n d le e r = (b - 1, f, on, record { count = zero; steps = refl; paid = omega arith }, e, r)

    pub texts_on : {A : Type 0} (Q : A → ℕ → Frame → Type 0) (b : ℕ) (f on : Frame) (text : List ℕ) (d : Does A) → 1 ≤ b → run f ≡ ShowsText text on → Follows run current more Q (b - 1) on d → Follows run current more Q b f (Shows text d)
    texts_on Q b f on text d le e r = (b - 1, f, on, record { count = zero; steps = refl; paid = omega arith }, e, r)

    pub asks_on : {A : Type 0} (Q : A → ℕ → Frame → Type 0) (b : ℕ) (f on : Frame) (d : ℤ → Does A) → 1 ≤ b → run f ≡ Asks on → ((n : ℤ) → Follows run current more Q (b - 1) (with_read n on) (d n)) → Follows run current more Q b f (Reads d)
    asks_on Q b f on d le e r = (b - 1, f, on, record { count = zero; steps = refl; paid = omega arith }, e, r)

    -- a tick behind one silent instruction
    pub ticks_on : {A : Type 0} (Q : A → ℕ → Frame → Type 0) (b : ℕ) (f to : Frame) (d : Does A) → 1 ≤ b → run f ≡ Moves to → Follows run current more Q (b - 1 + more) to d → Follows run current more Q b f (Ticks d)
    ticks_on Q b f to d le e r =
        let n : suc (b - 1) ≡ b = omega arith in
        (b - 1, to, subst (λ k. Comes run k f (b - 1) to) n (one (b - 1) f to e), omega arith, r)

    -- a trap
    pub fails : {A : Type 0} (Q : A → ℕ → Frame → Type 0) (b : ℕ) (f : Frame) (kind : TrapKind) → 1 ≤ b → run f ≡ Fails kind → Follows run current more Q b f (Traps kind)
    fails Q b f kind le e = (b - 1, f, record { count = zero; steps = refl; paid = omega arith }, e)

    -- an operation that traps or is stuck, or goes on
    pub on_outcome : {A B : Type 0} (P : A → Type 0) (Q : B → ℕ → Frame → Type 0) (b : ℕ) (f : Frame) (r : Outcome A) (act_go : A → Act) (go : A → Does B) → 1 ≤ b → run f ≡ acted r act_go → Gives_as P r → ((a : A) → P a → run f ≡ act_go a → Follows run current more Q b f (go a)) → Follows run current more Q b f (do_of r go)
    on_outcome P Q b f (Fine a) act_go go le e p h = h a p e
    on_outcome P Q b f (Trap k) act_go go le e p h = fails Q b f k le e
    on_outcome P Q b f Wrong act_go go le e p h = tt

    -- the same evaluation, and more instructions at its end
    pub ending : {A : Type 0} (Q R : A → ℕ → Frame → Type 0) → ((a : A) (c : ℕ) (to : Frame) → Q a c to → Follows run current more R c to (Gives a)) → (d : Does A) (b : ℕ) (f : Frame) → Follows run current more Q b f d → Follows run current more R b f d
    ending Q R h (Gives a) b f r = first R b r.0 f r.1 (Gives a) r.2 (h a r.0 r.1 r.3)
    ending Q R h (Traps t) b f r = r
    ending Q R h (Ticks d) b f r = (r.0, r.1, r.2, r.3, ending Q R h d (r.0 + more) r.1 r.4)
    ending Q R h (Prints n d) b f r = (r.0, r.1, r.2, r.3, r.4, ending Q R h d r.0 r.2 r.5)
    ending Q R h (Shows n d) b f r = (r.0, r.1, r.2, r.3, r.4, ending Q R h d r.0 r.2 r.5)
    ending Q R h (Reads d) b f r = (r.0, r.1, r.2, r.3, r.4, λ v. ending Q R h (d v) r.0 (with_read v r.2) (r.5 v))
    ending Q R h (Works op d) b f r = (
      r.0,
      r.1,
      r.2,
      r.3,
      r.4,
      r.5,
      λ v may. onward (answered r.3 v r.2) (d v) (d v) (λ g. Follows run current more Q r.0 g (d v)) _
          (λ e. e) (λ g k. ending Q R h (d v) r.0 g k) (r.6 v may),
    )
    ending Q R h (Calls c d) b f r = (
      r.0,
      r.1,
      r.2,
      r.3,
      r.4,
      r.5,
      λ v. onward (answered r.3 v r.2) (d v) (d v) (λ g. Follows run current more Q r.0 g (d v)) _
          (λ e. e) (λ g k. ending Q R h (d v) r.0 g k) (r.6 v),
    )
    ending Q R h Limit b f r = tt
    ending Q R h Stuck b f r = tt
