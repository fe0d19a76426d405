-- What a run of the machine of at most so many instructions says of the meaning.
use Rattle.std.specs.Prelude.{◌≡◌, ℕ, suc, ◌*◌, ◌≤◌, List, Bool, true, false}
use Rattle.class_form.specs.declared.class_file.ClassFile.{ClassFile}
use Rattle.jp_meaning.specs.Descriptors.{internal_name}
use Rattle.jp_meaning.specs.Laws.{Begins}
use Rattle.jp_meaning.specs.Run.{End, Done, Trapped, NoBody, TwoBodies, IsStuck, More, Program, Result, run}
use Rattle.jvm_step.specs.declared.value.End.TheVariants as machine
use Rattle.jvm_step.specs.declared.value.End.{End as MachineEnd}
use Rattle.jvm_step.specs.declared.state.State.{State}
use Rattle.jvm_step.specs.Run.{Finish, machine_run, Passes}
use Rattle.whole_program.specs.Fits.{EachCallFits}
use Rattle.whole_program.specs.Right.{Bounds, Naming, IsRight}
use Rattle.whole_program.specs.Laws.{fee, EndsAs}

-- whether a call had no selection, or a thing wasn't there
abbrev pub is_lost : End → Bool
is_lost NoBody = true
is_lost TwoBodies = true
is_lost IsStuck = true
is_lost Done = false
is_lost (Trapped kind) = false
is_lost More = false

-- A run that ended by itself is the meaning's, with its end, its output and what it used of the input; one that was cut has
-- written a front part of the meaning's output; and no run ends otherwise
abbrev pub Tells : MachineEnd → List ℕ → Result → Finish → Type 0
Tells machine.Done input result finish = (result.end ≡ Done) × EndsAs machine.Done input result finish
Tells (machine.Trap kind) input result finish = (result.end ≡ Trapped kind) × EndsAs (machine.Trap kind) input result finish
Tells machine.Cut input result finish = Begins finish.out result.output
Tells machine.ReadFault input result finish = ⊥
Tells machine.WriteFault input result finish = ⊥
Tells (machine.BadCode class method place) input result finish = ⊥

-- what the machine's run of at most `limit` instructions says of the meaning with as many ticks or more, where that isn't
-- lost
abbrev pub Headline : Type 0
Headline =
    (p : Program) (files : List ClassFile) (naming : Naming) (b : Bounds) → EachCallFits p → IsRight p files naming b → (input : List ℕ) (limit n : ℕ) → limit ≤ n → is_lost (run p input n).end ≡ false →
    Tells (machine_run files (internal_name p.main) limit input).end input (run p input n) (machine_run files (internal_name p.main) limit input)

-- what a run of at most `limit` instructions writes, and what was written at each state that it passes, is a front part of
-- the output of the meaning with as many ticks or more, where that isn't lost
abbrev pub OutputBegins : Type 0
OutputBegins =
    (p : Program) (files : List ClassFile) (naming : Naming) (b : Bounds) → EachCallFits p → IsRight p files naming b → (input : List ℕ) (limit n : ℕ) → limit ≤ n → is_lost (run p input n).end ≡ false →
    Begins (machine_run files (internal_name p.main) limit input).out (run p input n).output
    × ((state : State) (rest out : List ℕ) → Passes files (internal_name p.main) limit input state rest out → Begins out (run p input n).output)

-- a run with instructions enough for a meaning, by the meaning's end: it has ended so, or what it has written goes on from
-- the meaning's output
abbrev pub Reaches : End → List ℕ → Result → Finish → Type 0
Reaches Done input result finish = EndsAs machine.Done input result finish
Reaches (Trapped kind) input result finish = EndsAs (machine.Trap kind) input result finish
Reaches More input result finish = Begins result.output finish.out
Reaches NoBody input result finish = Unit {0}
Reaches TwoBodies input result finish = Unit {0}
Reaches IsStuck input result finish = Unit {0}

-- with the instructions that n + 1 ticks buy the machine has done what the meaning does with n
abbrev pub EnoughInstructions : Type 0
EnoughInstructions =
    (p : Program) (files : List ClassFile) (naming : Naming) (b : Bounds) → EachCallFits p → IsRight p files naming b → (input : List ℕ) (limit n : ℕ) → suc n * fee b ≤ limit →
    Reaches (run p input n).end input (run p input n) (machine_run files (internal_name p.main) limit input)
