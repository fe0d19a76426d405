-- The steps of `go`: reading the unit, putting the class file, running it. Each says what it gave and what it left.
use Rattle.std.specs.Prelude.{◌≡◌, ℕ, ◌≤◌, ℤ, List, length, map, flat_map, Option, None, Result, Ok, Err}
use Rattle.std.specs.Fmt.{signed_decimal}
use Rattle.std.specs.Io.KnownBytes.{append_known}
use Rattle.std.proofs.Common.{Vec, Global}
use Rattle.jp_outside.specs.Faults.{Rose}
use Rattle.jp_outside.specs.Bytes.{AppendsFront}
use Rattle.jp_outside.specs.Files.{Files, Finds, put_known, OthersStay}
use Rattle.class_form.specs.declared.class_file.ClassFile.{ClassFile}
use Rattle.jvm_step.specs.declared.value.End.{End}
use Rattle.jvm_step.specs.declared.value.End.TheVariants.{Done as EndDone, Trap, Cut, ReadFault, WriteFault, BadCode}
use Rattle.cli_text.specs.declared.ending.Ending.{Ending}
use Rattle.cli_text.specs.declared.ending.Ending.TheVariants.{Done, NoCommand, Refused, Missing, UnitFault, ClassFault, OutputFault, OutOfMemory}
use Rattle.jpred_cli.specs.Built.{class_of}
use Rattle.print_form.specs.declared.literal.Literal.{Literal}
use Rattle.print_form.specs.Form.{value_of}
use Rattle.cli_text.specs.Lines.{class_file_name}
use Rattle.jpred_cli.specs.Outcome.{HasProgram, HasRefusal}

-- the store is as it was
abbrev pub StoreStays : Option Files → Option Files → ℕ → ℕ → Type 0
StoreStays files files' faults faults' = (files' ≡ files) × (faults' ≡ faults)

-- the numbers of the unit's program, or why there are none; the store stays but for the count of its faults
abbrev pub UnitRead : List ℕ → List ℕ → Option Files → Option Files → ℕ → ℕ → Result (Vec ℤ Global) Ending → Type 0
UnitRead main unit files files' faults faults' (Ok numbers) =
    (literals : List Literal) × HasProgram files main unit literals × (numbers.items ≡ map value_of literals) × (length numbers.items ≤ 200) × StoreStays files files' faults faults'
UnitRead main unit files files' faults faults' (Err (Refused refusal)) = HasRefusal files main unit refusal × StoreStays files files' faults faults'
UnitRead main unit files files' faults faults' (Err Missing) = Finds files unit None × StoreStays files files' faults faults'
UnitRead main unit files files' faults faults' (Err UnitFault) = Rose faults faults' × (files' ≡ files)
UnitRead main unit files files' faults faults' (Err OutOfMemory) = StoreStays files files' faults faults'
UnitRead main unit files files' faults faults' (Err Done) = ⊥
UnitRead main unit files files' faults faults' (Err NoCommand) = ⊥
UnitRead main unit files files' faults faults' (Err ClassFault) = ⊥
UnitRead main unit files files' faults faults' (Err OutputFault) = ⊥

-- the class file that was put, or why it wasn't
abbrev pub ClassPut : List ℕ → List ℤ → Option Files → Option Files → ℕ → ℕ → Result ClassFile Ending → Type 0
ClassPut main numbers files files' faults faults' (Ok file) =
    (file ≡ class_of main numbers) × (bytes : List ℕ) × (files' ≡ put_known files (class_file_name main) bytes) × (faults' ≡ faults)
ClassPut main numbers files files' faults faults' (Err ClassFault) = OthersStay files files' (class_file_name main) × Rose faults faults'
ClassPut main numbers files files' faults faults' (Err OutOfMemory) = StoreStays files files' faults faults'
ClassPut main numbers files files' faults faults' (Err Done) = ⊥
ClassPut main numbers files files' faults faults' (Err NoCommand) = ⊥
ClassPut main numbers files files' faults faults' (Err (Refused refusal)) = ⊥
ClassPut main numbers files files' faults faults' (Err Missing) = ⊥
ClassPut main numbers files files' faults faults' (Err UnitFault) = ⊥
ClassPut main numbers files files' faults faults' (Err OutputFault) = ⊥

-- what the run of the class wrote
abbrev pub ClassRan : List ℤ → Option (List ℕ) → Option (List ℕ) → ℕ → ℕ → Ending → Type 0
ClassRan numbers out out' faults faults' Done = (out' ≡ append_known out (flat_map signed_decimal numbers)) × (faults' ≡ faults)
ClassRan numbers out out' faults faults' OutputFault = AppendsFront out out' (flat_map signed_decimal numbers) × Rose faults faults'
ClassRan numbers out out' faults faults' OutOfMemory = AppendsFront out out' (flat_map signed_decimal numbers) × (faults' ≡ faults)
ClassRan numbers out out' faults faults' NoCommand = ⊥
ClassRan numbers out out' faults faults' (Refused refusal) = ⊥
ClassRan numbers out out' faults faults' Missing = ⊥
ClassRan numbers out out' faults faults' UnitFault = ⊥
ClassRan numbers out out' faults faults' ClassFault = ⊥

-- what a program of prints writes: each number in decimal
abbrev pub printed : List ℤ → List ℕ
printed numbers = flat_map signed_decimal numbers

-- how the run of the class ends: all is written, or the output fails
abbrev pub Printed : List ℤ → End → Option (List ℕ) → Option (List ℕ) → Type 0
Printed numbers EndDone before now = now ≡ append_known before (printed numbers)
Printed numbers WriteFault before now = AppendsFront before now (printed numbers)
Printed numbers ReadFault before now = ⊥
Printed numbers Cut before now = ⊥
Printed numbers (Trap kind) before now = ⊥
Printed numbers (BadCode class method pc) before now = ⊥
