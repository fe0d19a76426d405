-- Where a run ends for want of memory.
use Rattle.std.specs.Prelude.{◌≡◌, ◌⊎◌, ℕ, List, Option}
use Rattle.std.specs.Io.KnownBytes.{append_known}
use Rattle.class_form.specs.declared.class_file.ClassFile.{ClassFile}
use Rattle.jvm_step.specs.declared.state.State.{State}
use Rattle.jvm_step.specs.Run.{Passes, Tells}

-- before the first instruction, where nothing was read or written, or at a state that the run passes: what was written
-- before it was added, and the rest of the input is left
abbrev pub StoppedAt : List ClassFile → List ℕ → ℕ → List ℕ → Option (List ℕ) → Option (List ℕ) → Option (List ℕ) → Type 0
StoppedAt files main limit input left before now =
    (Tells left input × (now ≡ before))
    ⊎ ((state : State) × (rest : List ℕ) × (out : List ℕ) × Passes files main limit input state rest out × Tells left rest × (now ≡ append_known before out))
