-- Devices that fail by a plan: the calls that are to fail stand in a list, by their numbers from 1.
use Rattle.std.specs.Prelude.{◌≡◌, ◌⊎◌, ℕ, ◌+◌, ◌-◌, ◌^◌, ◌<◌, min, List, length, Contains, Result, Ok, Err}
use Rattle.jp_outside.specs.declared.store.StoreErr.{StoreErr}
use Rattle.jp_outside.specs.declared.store.StoreErr.TheVariants.{Failed, OutOfMemory}

-- the calls that are to fail, how many there have been, and how many failed, both counted up to the greatest `u64`
pub record Plan : Type 0 where
  pub fail : List ℕ
  pub calls : ℕ
  pub faults : ℕ

-- a device that follows a plan, and what it tells
pub record Planned (Told : Type 0) : Type 0 where
  pub told : Told
  pub plan : Plan

-- a plan before the first call
abbrev pub new_plan : List ℕ → Plan
new_plan fail = record { fail = fail; calls = 0; faults = 0 }

-- the next call is in the list
abbrev pub FailsNext : Plan → Type 0
FailsNext plan = Contains plan.fail (plan.calls + 1)

-- one more call is counted, and the list stays
abbrev pub CountsCall : Plan → Plan → Type 0
CountsCall before after = (after.fail ≡ before.fail) × (after.calls ≡ min (before.calls + 1) (2 ^ 64 - 1))

-- a call fails exactly where it is in the list, unless there is no memory for what a failed call stores
abbrev pub FailsAsPlanned : {T : Type 0} → Result T StoreErr → Plan → Type 0
FailsAsPlanned (Ok _) plan = ¬ (FailsNext plan)
FailsAsPlanned (Err Failed) plan = FailsNext plan
FailsAsPlanned (Err OutOfMemory) plan = Unit {0}

-- a sink that follows a plan, and takes bytes while it has room for them
pub record PlannedSink : Type 0 where
  pub taken : List ℕ
  pub room : ℕ
  pub plan : Plan

-- a write fails where it is in the list, and where the sink is full and the piece isn't empty
abbrev pub WriteFails : PlannedSink → List ℕ → Type 0
WriteFails sink piece = FailsNext sink.plan ⊎ ((0 < length piece) × (length sink.taken ≡ sink.room))
