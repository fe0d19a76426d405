-- What it means that code does what an evaluation does.
use Rattle.std.specs.Prelude.{◌≡◌, ℕ, zero, suc, ◌+◌, ◌-◌, ◌<◌, ℤ, List, Bool, Option, Some, None}
use Rattle.jp_store.specs.declared.value.Value.{Value}
use Rattle.jp_store.specs.declared.value.Value.TheVariants.{Ref}
use Rattle.jp_store.specs.Work.{Op, GetField, PutField, GetStatic, PutStatic, MakeObject, MakeArray, GetElem, PutElem, Length, InstanceOf, Cast}
use Rattle.jp_does.specs.Does.{Gives, Traps, Ticks, Prints, Shows, Reads, Works, Calls, Limit, Stuck}
use Rattle.jp_meaning.specs.Does.{Does}
use Rattle.jvm_table.specs.declared.frame.Frame.{Frame}
use Rattle.jvm_table.specs.Act.{Act, Moves, ShowsInt, ShowsText, Asks, Effects, Invokes, Leaves, Fails, answered}
use Rattle.code_trace.specs.Calls.{call_in}
use Rattle.code_trace.specs.CodeTrace.{with_read, value_left}

-- so many instructions of the code lead silently from a frame to another
abbrev pub Steps : (Frame → Act) → ℕ → Frame → Frame → Type 0
Steps run zero f to = f ≡ to
Steps run (suc k) f to = (mid : Frame) × (run f ≡ Moves mid) × Steps run k mid to

-- they do, and so many are left of a budget
pub record Comes (run : Frame → Act) (budget : ℕ) (f : Frame) (left : ℕ) (to : Frame) : Type 0 where
  pub count : ℕ
  pub steps : Steps run count f to
  pub paid : count + left ≡ budget

-- it goes on from a frame with an answer; where there is no room for the answer the evaluation is stuck
abbrev pub Onward : {A : Type 0} → Option Frame → Does A → (Frame → Type 0) → Type 0
Onward None d go = d ≡ Stuck
Onward (Some f) d go = go f

-- what an operation may answer: a new object isn't null
abbrev pub MayAnswer : Op → Value → Type 0
MayAnswer (MakeObject name) v = (o : ℕ) × (v ≡ Ref o)
MayAnswer (GetField r key) v = Unit {0}
MayAnswer (PutField r key u) v = Unit {0}
MayAnswer (GetStatic key) v = Unit {0}
MayAnswer (PutStatic key u) v = Unit {0}
MayAnswer (MakeArray elements size) v = Unit {0}
MayAnswer (GetElem kind r index) v = Unit {0}
MayAnswer (PutElem kind r index u) v = Unit {0}
MayAnswer (Length r) v = Unit {0}
MayAnswer (InstanceOf r name) v = Unit {0}
MayAnswer (Cast r name) v = Unit {0}

-- The code of a class does what the evaluation does, from this frame on, out of a budget of instructions to which each
-- tick adds so many. Where the evaluation gives a value, the code has come to a frame as `Q` says, with what is left.
-- Where it is at its limit or stuck, nothing is said
abbrev pub Follows : {A : Type 0} → (Frame → Act) → List ℕ → ℕ → (A → ℕ → Frame → Type 0) → ℕ → Frame → Does A → Type 0
Follows run current more Q budget f (Gives a) = (left : ℕ) × (to : Frame) × Comes run budget f left to × Q a left to
Follows run current more Q budget f (Traps kind) = (left : ℕ) × (to : Frame) × Comes run budget f (suc left) to × (run to ≡ Fails kind)
Follows run current more Q budget f (Ticks d) =
    (left : ℕ) × (to : Frame) × Comes run budget f left to × (left < budget) × Follows run current more Q (left + more) to d
Follows run current more Q budget f (Prints n d) =
    (left : ℕ) × (to : Frame) × (on : Frame) × Comes run budget f (suc left) to × (run to ≡ ShowsInt n on) × Follows run current more Q left on d
Follows run current more Q budget f (Shows text d) =
    (left : ℕ) × (to : Frame) × (on : Frame) × Comes run budget f (suc left) to × (run to ≡ ShowsText text on) × Follows run current more Q left on d
Follows run current more Q budget f (Reads d) =
    (left : ℕ) × (to : Frame) × (on : Frame) × Comes run budget f (suc left) to × (run to ≡ Asks on)
    × ((n : ℤ) → Follows run current more Q left (with_read n on) (d n))
Follows run current more Q budget f (Works op d) =
    (left : ℕ) × (to : Frame) × (on : Frame) × (push : Bool) × Comes run budget f (suc left) to × (run to ≡ Effects op push on)
    × ((v : Value) → MayAnswer op v → Onward (answered push v on) (d v) (λ g. Follows run current more Q left g (d v)))
Follows run current more Q budget f (Calls c d) =
    (left : ℕ) × (to : Frame) × (on : Frame) × (push : Bool) × Comes run budget f (suc left) to × (run to ≡ Invokes (call_in current c) push on)
    × ((v : Value) → Onward (answered push v on) (d v) (λ g. Follows run current more Q left g (d v)))
Follows run current more Q budget f Limit = Unit {0}
Follows run current more Q budget f Stuck = Unit {0}

-- where a method returns, with an instruction left for it
abbrev pub Leaving : (Frame → Act) → Value → ℕ → Frame → Type 0
Leaving run v left f = (0 < left) × (o : Option Value) × (run f ≡ Leaves o) × (value_left o ≡ v)

-- the limit is reached behind n ticks at the earliest
abbrev pub IsDeep : {A : Type 0} → ℕ → Does A → Type 0
IsDeep n (Gives a) = Unit {0}
IsDeep n (Traps kind) = Unit {0}
IsDeep n (Ticks d) = IsDeep (n - 1) d
IsDeep n (Prints k d) = IsDeep n d
IsDeep n (Shows text d) = IsDeep n d
IsDeep n (Reads d) = (k : ℤ) → IsDeep n (d k)
IsDeep n (Works op d) = (v : Value) → IsDeep n (d v)
IsDeep n (Calls c d) = (v : Value) → IsDeep n (d v)
IsDeep n Limit = n ≡ 0
IsDeep n Stuck = Unit {0}
