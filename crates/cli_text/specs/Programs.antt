-- What the text of a unit is: a program that can be run, or why it is none.
use Rattle.std.specs.Prelude.{◌≡◌, ℕ, ℤ, List, map, Result, Ok, Err}
use Rattle.std.proofs.Common.{Vec, Global}
use Rattle.jp_ast.specs.declared.decl.SourceUnit.{SourceUnit}
use Rattle.jp_lexical.specs.Lexed.{FirstFault}
use Rattle.jp_read.specs.Reads.{IsUnit, HasSyntaxFault}
use Rattle.print_form.specs.declared.literal.Literal.{Literal}
use Rattle.print_form.specs.Form.{IsProgram, value_of}
use Rattle.cli_text.specs.declared.refusal.Refusal.{Refusal}
use Rattle.cli_text.specs.declared.refusal.Refusal.TheVariants.{Lex, Syntax, NotYet}
use Rattle.cli_text.specs.declared.ending.Ending.{Ending}
use Rattle.cli_text.specs.declared.ending.Ending.TheVariants.{Done, NoCommand, Refused, Missing, UnitFault, ClassFault, OutputFault, OutOfMemory}

-- The text has tokens for which the grammar gives a unit, and that unit is the program of the class with this name that
-- prints these literals.
pub record IsProgramText (main text : List ℕ) (literals : List Literal) : Type 0 where
  pub unit : SourceUnit
  pub is_unit : IsUnit text unit
  pub program : IsProgram main literals unit

-- The text has tokens for which the grammar gives a unit, and that unit is no program of the class with this name.
pub record IsOtherText (main text : List ℕ) : Type 0 where
  pub unit : SourceUnit
  pub is_unit : IsUnit text unit
  pub other : (literals : List Literal) → IsProgram main literals unit → ⊥

-- The text is refused so: it has this lexical fault, or tokens with this fault, or is a unit that can't be run yet. Of
-- such a unit nothing is said of the place.
abbrev pub IsRefusal : List ℕ → List ℕ → Refusal → Type 0
IsRefusal main text (Lex fault) = FirstFault text fault
IsRefusal main text (Syntax fault) = HasSyntaxFault text fault
IsRefusal main text (NotYet place) = IsOtherText main text

-- the refusals are the same, places of units that can't be run yet aside
abbrev pub SameRefusal : Refusal → Refusal → Type 0
SameRefusal (NotYet place) (NotYet other) = Unit {0}
SameRefusal (NotYet place) (Lex fault) = ⊥
SameRefusal (NotYet place) (Syntax fault) = ⊥
SameRefusal (Lex fault) other = other ≡ Lex fault
SameRefusal (Syntax fault) other = other ≡ Syntax fault

-- the text is the program of these literals, and of no others, and isn't refused
pub record IsOnlyProgram (main text : List ℕ) (literals : List Literal) : Type 0 where
  pub program : IsProgramText main text literals
  pub only : (others : List Literal) → IsProgramText main text others → others ≡ literals
  pub no_refusal : (refusal : Refusal) → IsRefusal main text refusal → ⊥

-- the text is refused so, and not otherwise, and is no program
pub record IsOnlyRefusal (main text : List ℕ) (refusal : Refusal) : Type 0 where
  pub refused : IsRefusal main text refusal
  pub only : (other : Refusal) → IsRefusal main text other → SameRefusal refusal other
  pub no_program : (literals : List Literal) → IsProgramText main text literals → ⊥

-- the numbers of the program that the text is, or its refusal; nothing is said where memory is wanting
abbrev pub ReadsProgram : List ℕ → List ℕ → Result (Vec ℤ Global) Ending → Type 0
ReadsProgram main text (Ok numbers) = (literals : List Literal) × IsOnlyProgram main text literals × (numbers.items ≡ map value_of literals)
ReadsProgram main text (Err (Refused refusal)) = IsOnlyRefusal main text refusal
ReadsProgram main text (Err OutOfMemory) = Unit {0}
ReadsProgram main text (Err Done) = ⊥
ReadsProgram main text (Err NoCommand) = ⊥
ReadsProgram main text (Err Missing) = ⊥
ReadsProgram main text (Err UnitFault) = ⊥
ReadsProgram main text (Err ClassFault) = ⊥
ReadsProgram main text (Err OutputFault) = ⊥
