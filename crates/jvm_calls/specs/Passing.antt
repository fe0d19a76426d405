-- The code's answers to calls and returns as turns.
use Rattle.std.specs.Prelude.{ℕ, Bool, true, false, [], Option, Some, None}
use Rattle.jp_store.specs.declared.value.Value.{Value}
use Rattle.jp_store.specs.declared.value.Value.TheVariants.{Int, Long, Null, Ref, Text}
use Rattle.jvm_step.specs.declared.value.Halt.TheVariants.{Done as DoneAt, Trapped}
use Rattle.jvm_step.specs.declared.state.State.{State}
use Rattle.jvm_step.specs.Turn.{Turn, Goes, Stops, no_row}
use Rattle.jvm_calls.specs.declared.call.Passed.{Passed}
use Rattle.jvm_calls.specs.declared.call.Passed.TheVariants.{On, Done, Trap}

-- a state as a turn sees it beside what its instruction does: with the place, and without what its frame holds
abbrev pub at_place : ℕ → State → State
at_place place state =
    record state { current = record state.current { frame = record { place = place; locals = []; stack = record { room = 0; values = [] } } } }

-- an answer for a state that was `before`, with the state that the code left. Without one there is no row
abbrev pub as_turn : State → Option Passed → State → Turn
as_turn before None now = no_row before
as_turn before (Some On) now = Goes now
as_turn before (Some Done) now = Stops DoneAt
as_turn before (Some (Trap kind)) now = Stops (Trapped kind)

abbrev pub is_null : Value → Bool
is_null Null = true
is_null (Int n) = false
is_null (Long n) = false
is_null (Ref o) = false
is_null (Text t) = false
