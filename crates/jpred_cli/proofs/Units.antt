-- What is read of a unit in the store.
use Rattle.std.proofs.Common.{◌≡◌, ℕ, ◌≤◌, ℤ, List, length, Option, Result, Vec, Global, ap, arith}
use Rattle.std.specs.Prelude.{Some, Ok, Err}
use Rattle.std.proofs.lemmas.List.{length-map}
use Rattle.jp_ast.specs.declared.decl.SourceUnit.{SourceUnit}
use Rattle.jp_outside.specs.Files.{Files, Finds}
use Rattle.print_form.specs.declared.literal.Literal.{Literal}
use Rattle.print_form.specs.Form.{IsProgram, value_of}
use Rattle.print_form.proofs.Blocks.{each_length}
use Rattle.cli_text.specs.declared.ending.Ending.{Ending}
use Rattle.cli_text.specs.declared.ending.Ending.TheVariants.{Done, NoCommand, Refused, Missing, UnitFault, ClassFault, OutputFault, OutOfMemory}
use Rattle.cli_text.specs.Programs.{ReadsProgram}
use Rattle.jpred_cli.specs.Steps.{UnitRead}

-- a program has few literals
few : (main : List ℕ) (literals : List Literal) (unit : SourceUnit) → IsProgram main literals unit → length literals ≤ 200
few main literals unit p = let block = p.prints.prints.prints in omega (arith, each_length literals p.prints.prints.block block.prints, block.few)

-- the text that was found is read
pub unit_read : (main unit text : List ℕ) (files files' : Option Files) (faults faults' : ℕ) (r : Result (Vec ℤ Global) Ending) → Finds files unit (Some text) → files' ≡ files → faults' ≡ faults → ReadsProgram main text r → UnitRead main unit files files' faults faults' r
unit_read main unit text files files' faults faults' (Ok numbers) found same still read = (
  read.0,
  record { text = text; found = found; read = read.1 },
  read.2,
  omega (arith, few main read.0 read.1.program.unit read.1.program.program, ap length read.2, length-map read.0 value_of),
  (same, still),
)
unit_read main unit text files files' faults faults' (Err (Refused refusal)) found same still read = (record { text = text; found = found; read = read }, (same, still))
unit_read main unit text files files' faults faults' (Err OutOfMemory) found same still read = (same, still)
unit_read main unit text files files' faults faults' (Err Done) found same still read = absurd read
unit_read main unit text files files' faults faults' (Err NoCommand) found same still read = absurd read
unit_read main unit text files files' faults faults' (Err Missing) found same still read = absurd read
unit_read main unit text files files' faults faults' (Err UnitFault) found same still read = absurd read
unit_read main unit text files files' faults faults' (Err ClassFault) found same still read = absurd read
unit_read main unit text files files' faults faults' (Err OutputFault) found same still read = absurd read
