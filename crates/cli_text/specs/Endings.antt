-- How a command ends at a unit that gives no numbers.
use Rattle.jp_read.specs.declared.fault.ReadFault.{ReadFault}
use Rattle.jp_read.specs.declared.fault.ReadFault.TheVariants as reader
use Rattle.print_form.specs.declared.fault.NoProgram.{NoProgram}
use Rattle.print_form.specs.declared.fault.NoProgram.TheVariants as form
use Rattle.cli_text.specs.declared.refusal.Refusal.TheVariants.{Lex, Syntax, NotYet}
use Rattle.cli_text.specs.declared.ending.Ending.{Ending}
use Rattle.cli_text.specs.declared.ending.Ending.TheVariants.{Refused, OutOfMemory}

-- what the reader of texts told
abbrev pub of_read_fault : ReadFault → Ending
of_read_fault (reader.Lex fault) = Refused (Lex fault)
of_read_fault (reader.Parse fault) = Refused (Syntax fault)
of_read_fault reader.OutOfMemory = OutOfMemory

-- what was told of the unit's tree
abbrev pub of_no_program : NoProgram → Ending
of_no_program (form.NotYet place) = Refused (NotYet place)
of_no_program form.OutOfMemory = OutOfMemory
