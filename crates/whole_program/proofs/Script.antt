-- The script of a run: its events, with what its calls came to, and its open trace.
use Rattle.std.proofs.Common.{◌≡◌, ℕ, zero, suc, ◌+◌, ◌-◌, ◌≤◌, List, [], ◌∷◌, ◌++◌, map, inl, inr, refl, sym, ap, ◌∙◌, subst, arith}
use Rattle.std.specs.Prelude.{ℤ}
use Rattle.std.specs.Fmt.{signed_decimal}
use Rattle.iface_codec.specs.declared.iface.Iface.{Iface}
use Rattle.jp_store.specs.declared.value.Value.{Value}
use Rattle.jp_store.specs.declared.value.TrapKind.{TrapKind}
use Rattle.jp_store.specs.declared.outcome.Outcome.TheVariants.{Fine, Trap, Wrong}
use Rattle.jp_store.specs.Store.{Store}
use Rattle.jp_store.specs.Work.{Worked, work}
use Rattle.jp_does.specs.Does.{Gives, Traps, Ticks, Prints, Shows, Reads, Works, Calls, Limit, Stuck}
use Rattle.jp_does.specs.OpenTrace.{Answer, Answers, Ends, Event, Called, Printed, Showed, WasRead, Way, Returned, Trapped as WayTrapped, Ended as WayEnded, AtLimit, IsStuck as WayStuck, Trace, first_of, rest_of, behind, turned, changed, open_trace}
use Rattle.jp_meaning.specs.Does as source
use Rattle.jp_meaning.specs.Does.{Does}
use Rattle.jp_meaning.specs.Descriptors.{internal_name}
use Rattle.jp_meaning.specs.Run.{End, Done, Trapped, NoBody, TwoBodies, IsStuck, More, World, Run, Came, Ended, after, worked, play, Program, calls}
use Rattle.jp_meaning.proofs.Cuts.{Cut, cut, gives, traps, ticks as cut_ticks, prints as cut_prints, shows as cut_shows, reads as cut_reads, working, calling, stuck as cut_stuck}
use Rattle.jvm_table.specs.Act.{Call}
use Rattle.code_trace.specs.Calls.{call_in, event_in}
use Rattle.code_trace.specs.Follows.{IsDeep}
use Rattle.code_trace.specs.OpenTraces.{EndsLike}
use Rattle.whole_program.specs.Fits.{HoldsMade, Fits, CallsFit, on_work}
use Rattle.whole_program.proofs.Keeps.{Kept, work_keeps, Keeps, calls_keep}

abbrev pub world : ℕ → Store → List ℕ → List ℕ → World
world t s i o = record { ticks = t; store = s; input = i; out = o }

-- the program is lost
abbrev pub IsLost : End → Type 0
IsLost Done = ⊥
IsLost (Trapped kind) = ⊥
IsLost More = ⊥
IsLost NoBody = Unit {0}
IsLost TwoBodies = Unit {0}
IsLost IsStuck = Unit {0}

less_deep : {A : Type 0} (d : Does A) (m n : ℕ) → m ≤ n → IsDeep n d → IsDeep m d
less_deep (Gives a) m n le h = tt
less_deep (Traps t) m n le h = tt
less_deep (Ticks d) m n le h = less_deep d (m - 1) (n - 1) (omega arith) h
less_deep (Prints v d) m n le h = less_deep d m n le h
less_deep (Shows v d) m n le h = less_deep d m n le h
less_deep (Reads d) m n le h = λ v. less_deep (d v) m n le (h v)
less_deep (Works op d) m n le h = λ v. less_deep (d v) m n le (h v)
less_deep (Calls c d) m n le h = λ v. less_deep (d v) m n le (h v)
less_deep Limit m n le h = omega arith
less_deep Stuck m n le h = tt

-- more turns of loops change nothing of a trace that is limited by ticks
pub same_trace : {d e : Does Value} → Cut d e → (t : ℕ) → IsDeep (suc t) d → (ans : List (Answer End)) (s : Store) (i : List ℕ) → open_trace t ans s i d ≡ open_trace t ans s i e
same_trace (cut e) t deep ans s i = absurd (omega (arith, deep))
same_trace (gives a) t deep ans s i = refl
same_trace (traps k) t deep ans s i = refl
same_trace (cut_ticks c) zero deep ans s i = refl
same_trace (cut_ticks {d = d} c) (suc t) deep ans s i = ap turned (same_trace c t (less_deep d (suc t) (suc (suc t) - 1) (omega arith) deep) ans s i)
same_trace (cut_prints v c) t deep ans s i = ap (behind (Printed v)) (same_trace c t deep ans s i)
same_trace (cut_shows v c) t deep ans s i = ap (behind (Showed v)) (same_trace c t deep ans s i)
same_trace (cut_reads c) t deep ans s i = ap (behind (WasRead (first_of i))) (same_trace (c (first_of i)) t (deep (first_of i)) ans s (rest_of i))
same_trace (working op {d = d} {e = e} c) t deep ans s i = by_work (work op s) (λ v u. same_trace (c v) t (deep v) ans u i) where
  by_work : (x : Worked) → ((v : Value) (u : Store) → open_trace t ans u i (d v) ≡ open_trace t ans u i (e v)) →
      changed {C = source.Call} {E = End} x (λ v u. open_trace t ans u i (d v)) ≡ changed x (λ v u. open_trace t ans u i (e v))
  by_work (Fine z) h = h z.0 z.1
  by_work (Trap k) h = refl
  by_work Wrong h = refl
same_trace (calling f c) t deep [] s i = refl
same_trace (calling f c) t deep (Ends e ∷ ans) s i = refl
same_trace (calling f c) t deep (Answers v heap statics j ∷ ans) s i = ap (behind (Called f s i)) (same_trace (c v) t (deep v) ans (record s { heap = heap; statics = statics }) j)
same_trace cut_stuck t deep ans s i = refl

-- What a run was, with so many ticks of its own: its events, the answers to its calls, what they cost and save, and how it
-- came out. Of the state it knows what the events tell. `R` says what a call came to
pub data Script (R : ℕ → ℕ → Call → World → Run Value → Type 0) : ℕ → ℕ → List ℕ → List ℕ → List (Event Call) → List (Answer End) → Way End → ℕ → ℕ → Run Value → Type 0 where
  returns : (t : ℕ) (s : Store) (i o : List ℕ) (ans : List (Answer End)) (v : Value) → Script R zero t i o [] ans (Returned v s i) 0 0 (Came v (world t s i o))
  trapped : (t : ℕ) (s : Store) (i o : List ℕ) (ans : List (Answer End)) (k : TrapKind) → Script R zero t i o [] ans (WayTrapped k) 0 0 (Ended (Trapped k) (world t s i o))
  limited : (s : Store) (i o : List ℕ) (ans : List (Answer End)) → Script R zero zero i o [] ans AtLimit 0 0 (Ended More (world zero s i o))
  lost : (t : ℕ) (s : Store) (i o : List ℕ) (ans : List (Answer End)) (e : End) → IsLost e → Script R zero t i o [] ans AtLimit 0 0 (Ended e (world t s i o))
  rowless : (t : ℕ) (s : Store) (i o : List ℕ) (ans : List (Answer End)) (e : End) → IsLost e → Script R zero t i o [] ans WayStuck 0 0 (Ended e (world t s i o))
  ticks : {own t : ℕ} {i o : List ℕ} {es : List (Event Call)} {ans : List (Answer End)} {way : Way End} {cost saved : ℕ} {r : Run Value} → Script R own t i o es ans way cost saved r → Script R (suc own) (suc t) i o es ans way cost saved r
  prints : {own t : ℕ} {i o : List ℕ} {es : List (Event Call)} {ans : List (Answer End)} {way : Way End} {cost saved : ℕ} {r : Run Value} (v : ℤ) → Script R own t i (o ++ signed_decimal v) es ans way cost saved r → Script R own t i o (Printed v ∷ es) ans way cost saved r
  shows : {own t : ℕ} {i o : List ℕ} {es : List (Event Call)} {ans : List (Answer End)} {way : Way End} {cost saved : ℕ} {r : Run Value} (text : List ℕ) → Script R own t i (o ++ text) es ans way cost saved r → Script R own t i o (Showed text ∷ es) ans way cost saved r
  reads : {own t : ℕ} {i o : List ℕ} {es : List (Event Call)} {ans : List (Answer End)} {way : Way End} {cost saved : ℕ} {r : Run Value} → Script R own t (rest_of i) o es ans way cost saved r → Script R own t i o (WasRead (first_of i) ∷ es) ans way cost saved r
  calls_on : {own t : ℕ} {i o : List ℕ} {es : List (Event Call)} {ans : List (Answer End)} {way : Way End} {cost saved : ℕ} {r : Run Value} (c : Call) (k l : ℕ) (s : Store) (v : Value) (w : World) → R k l c (world t s i o) (Came v w) → Script R own w.ticks w.input w.out es ans way cost saved r →
      Script R own t i o (Called c s i ∷ es) (Answers v w.store.heap w.store.statics w.input ∷ ans) way (k + cost) (l + saved) r
  call_ends : (t : ℕ) (s : Store) (i o : List ℕ) (c : Call) (k l : ℕ) (e : End) (w : World) → R k l c (world t s i o) (Ended e w) → Script R zero t i o (Called c s i ∷ []) (Ends e ∷ []) (WayEnded e) k l (Ended e w)

-- a run has a script, which is an open trace of what is done in a class
pub record Opens (R : ℕ → ℕ → Call → World → Run Value → Type 0) (current : List ℕ) (trace : ℕ → List (Answer End) → Trace source.Call End) (t : ℕ) (i o : List ℕ) (r : Run Value) : Type 0 where
  pub answers : List (Answer End)
  pub own : ℕ
  pub few : own ≤ t
  pub made : (trace own answers).turns ≡ own
  pub script : Script R own t i o (map (event_in current) (trace own answers).events) answers (trace own answers).way 0 0 r

pub same_store : (s u : Store) → u.classes ≡ s.classes → record s { heap = u.heap; statics = u.statics } ≡ u
same_store s u e = ap (λ c. record u { classes = c }) (sym e)

-- what calls come to in a class, from states with these classes
abbrev pub Simulates : (R : ℕ → ℕ → Call → World → Run Value → Type 0) → Program → ℕ → Iface → Store → Type 0
Simulates R p n head first = (c : source.Call) (w : World) → w.store.classes ≡ first.classes → HoldsMade w.store → Fits p head c w.store → w.ticks ≤ n → R 0 0 (call_in (internal_name head.name) c) w (calls p n c w)

module _ (R : ℕ → ℕ → Call → World → Run Value → Type 0) (p : Program) (n : ℕ) (head : Iface) (first : Store) (sim : Simulates R p n head first) where
  abbrev current : List ℕ
  current = internal_name head.name

  abbrev Has : Does Value → ℕ → Store → List ℕ → List ℕ → Type 0
  Has d t s i o = Opens R current (λ own ans. open_trace own ans s i d) t i o (play (calls p n) d (world t s i o))

  pub opens : (d : Does Value) (t : ℕ) (s : Store) (i o : List ℕ) → t ≤ n → IsDeep (suc t) d → s.classes ≡ first.classes → HoldsMade s → CallsFit p n head d (world t s i o) → Has d t s i o
  opens (Gives v) t s i o le deep hs m fit = record { answers = []; own = zero; few = omega arith; made = refl; script = returns t s i o [] v }
  opens (Traps k) t s i o le deep hs m fit = record { answers = []; own = zero; few = omega arith; made = refl; script = trapped t s i o [] k }
  opens (Ticks d) zero s i o le deep hs m fit = record { answers = []; own = zero; few = omega arith; made = refl; script = limited s i o [] }
  opens (Ticks d) (suc t) s i o le deep hs m fit =
      let h = opens d t s i o (omega arith) (less_deep d (suc t) (suc (suc t) - 1) (omega arith) deep) hs m fit in
      record { answers = h.answers; own = suc h.own; few = omega (arith, h.few); made = ap suc h.made; script = ticks h.script }
  opens (Prints v d) t s i o le deep hs m fit =
      let h = opens d t s i (o ++ signed_decimal v) le deep hs m fit in
      record { answers = h.answers; own = h.own; few = h.few; made = h.made; script = prints v h.script }
  opens (Shows text d) t s i o le deep hs m fit =
      let h = opens d t s i (o ++ text) le deep hs m fit in
      record { answers = h.answers; own = h.own; few = h.few; made = h.made; script = shows text h.script }
  opens (Reads d) t s i o le deep hs m fit =
      let h = opens (d (first_of i)) t s (rest_of i) o le (deep (first_of i)) hs m fit in
      record { answers = h.answers; own = h.own; few = h.few; made = h.made; script = reads h.script }
  opens (Works op d) t s i o le deep hs m fit = by_work (work op s) (work_keeps op s) fit (λ v u e n f. opens (d v) t u i o le (deep v) (e ∙ hs) n f) where
    by_work : (x : Worked) → Kept s x → on_work (world t s i o) x (λ v. CallsFit p n head (d v)) → ((v : Value) (u : Store) → u.classes ≡ s.classes → HoldsMade u → CallsFit p n head (d v) (world t u i o) → Has (d v) t u i o) →
        Opens R current (λ own ans. changed x (λ v u. open_trace own ans u i (d v))) t i o (worked (world t s i o) x (λ v. play (calls p n) (d v)))
    by_work (Fine z) e f h = h z.0 z.1 e.0 (e.1 m) f
    by_work (Trap k) e f h = record { answers = []; own = zero; few = omega arith; made = refl; script = trapped t s i o [] k }
    by_work Wrong e f h = record { answers = []; own = zero; few = omega arith; made = refl; script = rowless t s i o [] IsStuck tt }
  opens (Calls c d) t s i o le deep hs m fit =
      by_answer (calls p n c (world t s i o)) refl (calls_keep p n c (world t s i o)) (sim c (world t s i o) hs m fit.0 le)
      (λ v w lt e n f. opens (d v) w.ticks w.store w.input w.out (omega (arith, lt)) (less_deep (d v) (suc w.ticks) (suc t) (omega (arith, lt)) (deep v)) (e ∙ hs) n f) where
        by_answer : (r : Run Value) → calls p n c (world t s i o) ≡ r → Keeps (world t s i o) r → R 0 0 (call_in current c) (world t s i o) r →
            ((v : Value) (w : World) → w.ticks ≤ t → w.store.classes ≡ s.classes → HoldsMade w.store → CallsFit p n head (d v) w → Has (d v) w.ticks w.store w.input w.out) →
            Opens R current (λ own ans. open_trace own ans s i (Calls c d)) t i o (after r (λ v. play (calls p n) (d v)))
        by_answer (Came v w) e keeps runs rest =
            let h = rest v w keeps.1 keeps.0 (keeps.2 m) (fit.1 v w e) in
            let z = same_store s w.store keeps.0 in
            let T = λ (u : Store). open_trace {C = source.Call} h.own h.answers u w.input (d v) in
            record {
              answers = Answers v w.store.heap w.store.statics w.input ∷ h.answers;
              own = h.own;
              few = omega (arith, h.few, keeps.1);
              made = ap (λ (u : Store). (T u).turns) z ∙ h.made;
              script = calls_on (call_in current c) 0 0 s v w runs (subst (λ (u : Store). Script R h.own w.ticks w.input w.out (map (event_in current) (T u).events) h.answers (T u).way 0 0 (play (calls p n) (d v) w)) (sym z) h.script);
            }
        by_answer (Ended k w) e keeps runs rest = record { answers = Ends k ∷ []; own = zero; few = omega arith; made = refl; script = call_ends t s i o (call_in current c) 0 0 k w runs }
  opens Limit t s i o le deep hs m fit = absurd (omega (arith, deep))
  opens Stuck t s i o le deep hs m fit = record { answers = []; own = zero; few = omega arith; made = refl; script = rowless t s i o [] IsStuck tt }

-- a script for a trace that ends like another
pub relabel : (R : ℕ → ℕ → Call → World → Run Value → Type 0) {own t : ℕ} {i o : List ℕ} {es : List (Event Call)} {ans : List (Answer End)} {way : Way End} {cost saved : ℕ} {r : Run Value} (made : Way End) → EndsLike made way → Script R own t i o es ans way cost saved r → Script R own t i o es ans made cost saved r
relabel R made e (returns t s i o ans v) = subst (λ (w : Way End). Script R zero t i o [] ans w 0 0 (Came v (world t s i o))) (sym e) (returns t s i o ans v)
relabel R made e (trapped t s i o ans k) = subst (λ (w : Way End). Script R zero t i o [] ans w 0 0 (Ended (Trapped k) (world t s i o))) (sym e) (trapped t s i o ans k)
relabel R made e (limited s i o ans) = subst (λ (w : Way End). Script R zero zero i o [] ans w 0 0 (Ended More (world zero s i o))) (sym e) (limited s i o ans)
relabel R made e (lost t s i o ans x l) = subst (λ (w : Way End). Script R zero t i o [] ans w 0 0 (Ended x (world t s i o))) (sym e) (lost t s i o ans x l)
relabel R made (inl e) (rowless t s i o ans x l) = subst (λ (w : Way End). Script R zero t i o [] ans w 0 0 (Ended x (world t s i o))) (sym e) (lost t s i o ans x l)
relabel R made (inr e) (rowless t s i o ans x l) = subst (λ (w : Way End). Script R zero t i o [] ans w 0 0 (Ended x (world t s i o))) (sym e) (rowless t s i o ans x l)
relabel R made e (ticks x) = ticks (relabel R made e x)
relabel R made e (prints v x) = prints v (relabel R made e x)
relabel R made e (shows v x) = shows v (relabel R made e x)
relabel R made e (reads x) = reads (relabel R made e x)
relabel R made e (calls_on c k l s v w got x) = calls_on c k l s v w got (relabel R made e x)
relabel R made e (call_ends t s i o c k l x w got) = subst (λ (y : Way End). Script R zero t i o (Called c s i ∷ []) (Ends x ∷ []) y k l (Ended x w)) (sym e) (call_ends t s i o c k l x w got)
