-- What class files do that are right part by part.
use Rattle.std.specs.Prelude.{◌≡◌, ℕ, suc, ◌+◌, ◌-◌, ◌*◌, ◌≤◌, List, length}
use Rattle.class_form.specs.declared.class_file.ClassFile.{ClassFile}
use Rattle.jp_meaning.specs.Descriptors.{internal_name}
use Rattle.jp_meaning.specs.Run.{End, Done, Trapped, NoBody, TwoBodies, IsStuck, More, Program, Result, run}
use Rattle.jvm_step.specs.declared.value.End.TheVariants as machine
use Rattle.jvm_step.specs.declared.value.End.{End as MachineEnd}
use Rattle.jvm_step.specs.Run.{Finish, machine_run}
use Rattle.whole_program.specs.Fits.{EachCallFits}
use Rattle.whole_program.specs.Right.{Bounds, Naming, IsRight}

-- how many instructions a tick buys: those of a turn, and those of the dispatcher in front of a body
abbrev pub fee : Bounds → ℕ
fee b = b.turn + b.dispatch

-- a run of the machine that ends so, with a result's output and as many bytes of the input used
pub record EndsAs (end : MachineEnd) (input : List ℕ) (result : Result) (finish : Finish) : Type 0 where
  pub ended : finish.end ≡ end
  pub used : length input - length finish.input ≡ result.used
  pub out : finish.out ≡ result.output

-- What the meaning with n ticks says of the machine's runs of so many instructions, by its end, where a tick buys so many:
-- the same end, or, where a tick is wanted or the program is lost, a run that is cut with the same output
abbrev pub Matches : (ℕ → Finish) → ℕ → List ℕ → ℕ → Result → End → Type 0
Matches machine_at price input n result Done = (j : ℕ) × EndsAs machine.Done input result (machine_at j) × (j ≤ suc n * price)
Matches machine_at price input n result (Trapped kind) = (j : ℕ) × EndsAs (machine.Trap kind) input result (machine_at j) × (j ≤ suc n * price)
Matches machine_at price input n result More = (j : ℕ) × EndsAs machine.Cut input result (machine_at j) × (n ≤ j) × (j ≤ suc n * price)
Matches machine_at price input n result NoBody = (j : ℕ) × EndsAs machine.Cut input result (machine_at j)
Matches machine_at price input n result TwoBodies = (j : ℕ) × EndsAs machine.Cut input result (machine_at j)
Matches machine_at price input n result IsStuck = (j : ℕ) × EndsAs machine.Cut input result (machine_at j)

-- files that are right for a program do what it means, whose calls all fit
abbrev pub RightKeepsTheMeaning : Type 0
RightKeepsTheMeaning =
    (p : Program) (files : List ClassFile) (naming : Naming) (b : Bounds) → EachCallFits p → IsRight p files naming b → (input : List ℕ) (n : ℕ) →
    Matches (λ limit. machine_run files (internal_name p.main) limit input) (fee b) input n (run p input n) (run p input n).end
