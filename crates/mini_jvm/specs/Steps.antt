-- The code's answers to a step as turns.
use Rattle.std.specs.Prelude.{Option, Some, None}
use Rattle.std.specs.Fmt.{signed_decimal}
use Rattle.jvm_step.specs.declared.state.State.{State}
use Rattle.jvm_step.specs.Turn.{Turn, Goes, Shows, Wants, Stops, no_row}
use Rattle.mini_jvm.specs.declared.step.Step.{Step}
use Rattle.mini_jvm.specs.declared.step.Step.TheVariants.{Move, PrintInt, PrintText, Read, Stop}

-- with the state that the code left
abbrev pub as_turn : Step → State → Turn
as_turn Move now = Goes now
as_turn (PrintInt n) now = Shows (signed_decimal n) now
as_turn (PrintText bytes) now = Shows bytes.now now
as_turn Read now = Wants now
as_turn (Stop halt) now = Stops halt

-- an answer that may be none for a state that was `before`: there is no row
abbrev pub row_turn : State → Option Step → State → Turn
row_turn before None now = no_row before
row_turn before (Some step) now = as_turn step now
