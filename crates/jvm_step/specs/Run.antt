-- Whole runs of the machine.
use Rattle.std.specs.Prelude.{◌≡◌, ◌<◌, ℕ, zero, suc, ℤ, pos, negsuc, true, List, [], ◌∷◌, ◌++◌, Option, Some, None, option_and_then, unwrap_or, slice_get, codes}
use Rattle.std.specs.Io.KnownBytes.{append_known}
use Rattle.jp_outside.specs.Bytes.{AppendsFront}
use Rattle.jp_outside.specs.Faults.{Rose}
use Rattle.class_form.specs.declared.class_file.ClassFile.{ClassFile}
use Rattle.jp_store.specs.declared.value.Value.TheVariants.{Int}
use Rattle.jp_store.specs.Classes.{place_of, first_statics}
use Rattle.jvm_table.specs.Act.{with_values}
use Rattle.jvm_load.specs.FileClasses.{classes_of, name_of, text_at}
use Rattle.jvm_load.specs.Methods.{own_method}
use Rattle.jvm_step.specs.declared.value.End.{End}
use Rattle.jvm_step.specs.declared.value.End.TheVariants.{Done, Trap, Cut, ReadFault, WriteFault, BadCode}
use Rattle.jvm_step.specs.declared.value.Halt.{Halt}
use Rattle.jvm_step.specs.declared.value.Halt.TheVariants.{Done as HaltDone, Trapped, NoRow}
use Rattle.jvm_step.specs.declared.state.State.{State}
use Rattle.jvm_step.specs.Turn.{Turn, Goes, Shows, Wants, Stops, turn_of, entry}

-- a state before the first instruction: in the first `main` of the class's first file, where it is static and has code
abbrev pub start : List ClassFile → List ℕ → Option State
start files main =
    option_and_then (λ at. option_and_then (λ m. option_and_then (λ running.
    Some (record { current = running; callers = []; heap = []; statics = first_statics (classes_of files) }))
    (entry files true [] (at, m))) (own_method files (codes "main") (codes "()V") at)) (place_of (classes_of files) main)

-- how a run ends, the input that it leaves, and what it has written
pub record Finish : Type 0 where
  pub end : End
  pub input : List ℕ
  pub out : List ℕ

-- the name of a file's class
abbrev pub class_in : List ClassFile → ℕ → List ℕ
class_in files file = unwrap_or (option_and_then (λ f. Some (name_of f)) (slice_get files file)) []

-- the name of a file's method
abbrev pub method_in : List ClassFile → ℕ → ℕ → List ℕ
method_in files file method =
    unwrap_or (option_and_then (λ f. option_and_then (λ m. Some (text_at f m.name)) (slice_get f.methods method)) (slice_get files file)) []

-- how a run ends where the machine stops by itself
abbrev pub end_of : List ClassFile → Halt → End
end_of files HaltDone = Done
end_of files (Trapped kind) = Trap kind
end_of files (NoRow file method place) = BadCode (class_in files file) (method_in files file method) place

-- what a read gives: the first byte, or -1 at the end
abbrev pub first_of : List ℕ → ℤ
first_of [] = negsuc 0
first_of (b ∷ bs) = pos b

abbrev pub rest_of : List ℕ → List ℕ
rest_of [] = []
rest_of (b ∷ bs) = bs

-- a state with a number more, for which there is room
abbrev pub with_read : ℤ → State → State
with_read n state =
    let f = state.current.frame in
    record state { current = record state.current { frame = with_values (Int n ∷ f.stack.values) f } }

-- a run by its next turn
abbrev pub on_turn : List ClassFile → (State → List ℕ → List ℕ → Finish) → List ℕ → List ℕ → Turn → Finish
on_turn files go input out (Goes state) = go state input out
on_turn files go input out (Shows bytes state) = go state input (out ++ bytes)
on_turn files go input out (Wants state) = go (with_read (first_of input) state) (rest_of input) out
on_turn files go input out (Stops halt) = record { end = end_of files halt; input = input; out = out }

-- at most so many instructions; `out` is what was written so far
unfoldable pub exec : List ClassFile → ℕ → State → List ℕ → List ℕ → Finish
exec files zero state input out = record { end = Cut; input = input; out = out }
exec files (suc n) state input out = on_turn files (exec files n) input out (turn_of files state)

-- from `main` on, or no row for it
abbrev pub from_start : List ClassFile → List ℕ → ℕ → List ℕ → Option State → Finish
from_start files main limit input None = record { end = BadCode main (codes "main") 0; input = input; out = [] }
from_start files main limit input (Some state) = exec files limit state input []

-- the run of a class's `main` on an input, of at most `limit` instructions
abbrev pub machine_run : List ClassFile → List ℕ → ℕ → List ℕ → Finish
machine_run files main limit input = from_start files main limit input (start files main)

-- the source tells these bytes, or tells nothing
abbrev pub Tells : Option (List ℕ) → List ℕ → Type 0
Tells None bytes = Unit {0}
Tells (Some told) bytes = told ≡ bytes

-- goes on with a state's turn, if the run doesn't end there
abbrev pub on_way : (State → List ℕ → List ℕ → Option (State × (List ℕ × List ℕ))) → List ℕ → List ℕ → Turn → Option (State × (List ℕ × List ℕ))
on_way go input out (Goes state) = go state input out
on_way go input out (Shows bytes state) = go state input (out ++ bytes)
on_way go input out (Wants state) = go (with_read (first_of input) state) (rest_of input) out
on_way go input out (Stops halt) = None

-- the state behind n instructions, with the input that is left there and what was written so far; none where the run ends
-- before
unfoldable pub behind : List ClassFile → ℕ → State → List ℕ → List ℕ → Option (State × (List ℕ × List ℕ))
behind files zero state input out = Some (state, (input, out))
behind files (suc n) state input out = on_way (behind files n) input out (turn_of files state)

-- a run of main comes to a state within the limit, with the input that is left there and what was written before it
pub record Passes (files : List ClassFile) (main : List ℕ) (limit : ℕ) (input : List ℕ) (state : State) (rest out : List ℕ) : Type 0 where
  pub first : State
  pub started : start files main ≡ Some first
  pub count : ℕ
  pub within : count < limit
  pub comes : behind files count first input [] ≡ Some (state, (rest, out))

-- a fault comes at a state that reads: what was written before it was added, and the rest of the input is left
abbrev pub FaultsAtRead : List ClassFile → List ℕ → ℕ → List ℕ → Option (List ℕ) → Option (List ℕ) → Option (List ℕ) → Type 0
FaultsAtRead files main limit input left before now =
    (state : State) × (next : State) × (rest : List ℕ) × (out : List ℕ) × Passes files main limit input state rest out
    × (turn_of files state ≡ Wants next) × Tells left rest × (now ≡ append_known before out)

-- a fault comes at a state that shows: what was written before it was added, and a front part of what it shows
abbrev pub FaultsAtWrite : List ClassFile → List ℕ → ℕ → List ℕ → Option (List ℕ) → Option (List ℕ) → Option (List ℕ) → Type 0
FaultsAtWrite files main limit input left before now =
    (state : State) × (next : State) × (rest : List ℕ) × (out : List ℕ) × (bytes : List ℕ) × Passes files main limit input state rest out
    × (turn_of files state ≡ Shows bytes next) × Tells left rest × AppendsFront (append_known before out) now bytes

-- the run's end, with all that it writes and the input that it leaves
abbrev pub Ended : Finish → End → Option (List ℕ) → Option (List ℕ) → Option (List ℕ) → Type 0
Ended finish end left before now = (finish.end ≡ end) × Tells left finish.input × (now ≡ append_known before finish.out)

-- an answer of the machine on an input: that of the run, or a fault of a device on the way
abbrev pub Ran : List ClassFile → List ℕ → ℕ → List ℕ → End → Option (List ℕ) → Option (List ℕ) → Option (List ℕ) → Type 0
Ran files main limit input Done left before now = Ended (machine_run files main limit input) Done left before now
Ran files main limit input (Trap kind) left before now = Ended (machine_run files main limit input) (Trap kind) left before now
Ran files main limit input Cut left before now = Ended (machine_run files main limit input) Cut left before now
Ran files main limit input (BadCode class method pc) left before now = Ended (machine_run files main limit input) (BadCode class method pc) left before now
Ran files main limit input ReadFault left before now = FaultsAtRead files main limit input left before now
Ran files main limit input WriteFault left before now = FaultsAtWrite files main limit input left before now

-- want of memory comes on the way: a front part of what the run writes was added
abbrev pub Stopped : List ClassFile → List ℕ → ℕ → List ℕ → Option (List ℕ) → Option (List ℕ) → Type 0
Stopped files main limit input before now = AppendsFront before now (machine_run files main limit input).out

-- a fault of the input is answered only where its count rose; at every other answer it stays
abbrev pub ReadCause : End → ℕ → ℕ → Type 0
ReadCause ReadFault before now = Rose before now
ReadCause WriteFault before now = now ≡ before
ReadCause Done before now = now ≡ before
ReadCause Cut before now = now ≡ before
ReadCause (Trap kind) before now = now ≡ before
ReadCause (BadCode class method pc) before now = now ≡ before

-- and one of the output likewise
abbrev pub WriteCause : End → ℕ → ℕ → Type 0
WriteCause WriteFault before now = Rose before now
WriteCause ReadFault before now = now ≡ before
WriteCause Done before now = now ≡ before
WriteCause Cut before now = now ≡ before
WriteCause (Trap kind) before now = now ≡ before
WriteCause (BadCode class method pc) before now = now ≡ before
