-- Steps in a row.
use Rattle.std.specs.Prelude.{◌≡◌, ℕ, zero, suc, List, Option, Some, None, option_and_then}
use Rattle.class_form.specs.declared.class_file.ClassFile.{ClassFile}
use Rattle.jvm_step.specs.declared.state.State.{State}
use Rattle.jvm_step.specs.declared.value.Halt.TheVariants.{Trapped as HaltTrapped}
use Rattle.jvm_step.specs.Turn.{Turn, Goes, Shows, Wants, Stops, no_row, turn_of}
use Rattle.jvm_quick.specs.declared.stretch.Quick.{Quick}
use Rattle.jvm_quick.specs.declared.stretch.Quick.TheVariants.{Moved, Trapped, NoRow, Other}

-- the state that a turn only goes on to
abbrev pub gone : Turn → Option State
gone (Goes state) = Some state
gone (Shows bytes state) = None
gone (Wants state) = None
gone (Stops halt) = None

-- the state behind n turns that only go on, if they do
unfoldable pub gone_by : List ClassFile → ℕ → State → Option State
gone_by files zero state = Some state
gone_by files (suc n) state = option_and_then (λ s. gone (turn_of files s)) (gone_by files n state)

-- how instructions in a row end at a state, with the state that the code left
abbrev pub Closes : Quick → State → State → Turn → Type 0
Closes Moved old new turn = new ≡ old
Closes (Trapped kind) old new turn = turn ≡ Stops (HaltTrapped kind)
Closes NoRow old new turn = turn ≡ no_row new
Closes Other old new turn = new ≡ old

-- n turns that only go on, and how they end
abbrev pub LeadsTo : List ClassFile → ℕ → Quick → State → State → Type 0
LeadsTo files n end old new = (last : State) × (gone_by files n old ≡ Some last) × Closes end last new (turn_of files last)

-- a turn behind n others that only go on
abbrev pub IsWalk : List ClassFile → ℕ → State → Turn → Type 0
IsWalk files n old turn = (last : State) × (gone_by files n old ≡ Some last) × (turn_of files last ≡ turn)
