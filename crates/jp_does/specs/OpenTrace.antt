-- Open traces: what an evaluation does alone, its calls being answered from a list.
use Rattle.std.specs.Prelude.{ℕ, zero, suc, ℤ, pos, negsuc, List, [], ◌∷◌}
use Rattle.jp_store.specs.declared.value.Value.{Value}
use Rattle.jp_store.specs.declared.value.TrapKind.{TrapKind}
use Rattle.jp_store.specs.declared.heap.Thing.{Thing}
use Rattle.jp_store.specs.declared.outcome.Outcome.TheVariants.{Fine, Trap, Wrong}
use Rattle.jp_store.specs.Store.{Store}
use Rattle.jp_store.specs.Work.{Worked, work}
use Rattle.jp_does.specs.Does.{Does, Gives, Traps, Ticks, Prints, Shows, Reads, Works, Calls, Limit, Stuck}

-- the next byte, or -1 at the end of the input
abbrev pub first_of : List ℕ → ℤ
first_of [] = negsuc 0
first_of (b ∷ bs) = pos b

-- the input behind the next byte
abbrev pub rest_of : List ℕ → List ℕ
rest_of [] = []
rest_of (b ∷ bs) = bs

-- what a call is answered: a value, with the objects, the static fields and the rest of the input then, or an end
pub data Answer (E : Type 0) : Type 0 where
  Answers : Value → (heap : List Thing) → (statics : List (List Value)) → (input : List ℕ) → Answer E
  Ends : E → Answer E

-- what is seen of an evaluation from outside: each call, with the state then, and each print and read
pub data Event (C : Type 0) : Type 0 where
  Called : C → Store → (input : List ℕ) → Event C
  Printed : ℤ → Event C
  Showed : List ℕ → Event C
  WasRead : ℤ → Event C

-- how it ends: it returned a value and a state; it trapped; a call was answered with an end; there was no answer left;
-- the limit was reached; or a thing wasn't there
pub data Way (E : Type 0) : Type 0 where
  Returned : Value → Store → (input : List ℕ) → Way E
  Trapped : TrapKind → Way E
  Ended : E → Way E
  UsedUp : Way E
  AtLimit : Way E
  IsStuck : Way E

-- the ticks that were spent, the events in order, and the way it ends
pub record Trace (C E : Type 0) : Type 0 where
  pub turns : ℕ
  pub events : List (Event C)
  pub way : Way E

-- it ends at once
abbrev pub ends_as : {C E : Type 0} → Way E → Trace C E
ends_as way = record { turns = 0; events = []; way = way }

-- an event, and then the others
abbrev pub behind : {C E : Type 0} → Event C → Trace C E → Trace C E
behind e t = record t { events = e ∷ t.events }

-- a tick, and then the others
abbrev pub turned : {C E : Type 0} → Trace C E → Trace C E
turned t = record t { turns = suc t.turns }

-- goes on with a tick less
abbrev pub tick : {C E : Type 0} → ℕ → (ℕ → Trace C E) → Trace C E
tick zero go = ends_as AtLimit
tick (suc t) go = turned (go t)

-- goes on with the next answer; the classes stay as they are
abbrev pub answered : {C E : Type 0} → Store → List (Answer E) → (Value → Store → List ℕ → List (Answer E) → Trace C E) → Trace C E
answered s [] go = ends_as UsedUp
answered s (Answers v heap statics i ∷ answers) go = go v (record s { heap = heap; statics = statics }) i answers
answered s (Ends end ∷ answers) go = ends_as (Ended end)

-- goes on with what an operation on the store came to
abbrev pub changed : {C E : Type 0} → Worked → (Value → Store → Trace C E) → Trace C E
changed (Fine r) go = go r.0 r.1
changed (Trap kind) go = ends_as (Trapped kind)
changed Wrong go = ends_as IsStuck

-- what is done alone, with at most t ticks, from this state
abbrev pub open_trace : {C E : Type 0} → ℕ → List (Answer E) → Store → List ℕ → Does C Value → Trace C E
open_trace t answers s i (Gives v) = ends_as (Returned v s i)
open_trace t answers s i (Traps kind) = ends_as (Trapped kind)
open_trace t answers s i (Ticks d) = tick t (λ less. open_trace less answers s i d)
open_trace t answers s i (Prints n d) = behind (Printed n) (open_trace t answers s i d)
open_trace t answers s i (Shows text d) = behind (Showed text) (open_trace t answers s i d)
open_trace t answers s i (Reads d) = behind (WasRead (first_of i)) (open_trace t answers s (rest_of i) (d (first_of i)))
open_trace t answers s i (Works op d) = changed (work op s) (λ v u. open_trace t answers u i (d v))
open_trace t answers s i (Calls c d) = behind (Called c s i) (answered s answers (λ v u j more. open_trace t more u j (d v)))
open_trace t answers s i Limit = ends_as AtLimit
open_trace t answers s i Stuck = ends_as IsStuck

-- how many more calls there are with an event
abbrev pub counted : {C : Type 0} → Event C → ℕ → ℕ
counted (Called c s i) n = suc n
counted (Printed k) n = n
counted (Showed text) n = n
counted (WasRead k) n = n

-- how many of the events are calls
abbrev pub calls_in : {C : Type 0} → List (Event C) → ℕ
calls_in [] = 0
calls_in (e ∷ es) = counted e (calls_in es)
