-- What the reader and the form tell is what is read of a text.
use Rattle.std.proofs.Common.{◌≡◌, ℕ, ℤ, List, Vec, Global, sym, ap, subst}
use Rattle.std.specs.Prelude.{Ok, Err}
use Rattle.jp_ast.specs.declared.token.Place.{Place}
use Rattle.jp_ast.specs.declared.decl.SourceUnit.{SourceUnit}
use Rattle.jp_lexical.specs.declared.fault.LexFault.{LexFault}
use Rattle.jp_read.specs.declared.fault.SyntaxFault.{SyntaxFault}
use Rattle.jp_read.specs.declared.fault.ReadFault.{ReadFault}
use Rattle.jp_read.specs.declared.fault.ReadFault.TheVariants as reader
use Rattle.jp_read.specs.Reads.{ReadsUnit, ReadsFault, Reads}
use Rattle.print_form.specs.declared.literal.Literal.{Literal}
use Rattle.print_form.specs.declared.fault.NoProgram.{NoProgram}
use Rattle.print_form.specs.declared.fault.NoProgram.TheVariants as form
use Rattle.print_form.specs.Form.{IsProgram}
use Rattle.print_form.specs.Deciding.{Decides}
use Rattle.print_form.proofs.One.{one_unit}
use Rattle.cli_text.specs.declared.refusal.Refusal.{Refusal}
use Rattle.cli_text.specs.declared.refusal.Refusal.TheVariants.{Lex, Syntax, NotYet}
use Rattle.cli_text.specs.Endings.{of_read_fault, of_no_program}
use Rattle.cli_text.specs.Programs.{IsProgramText, IsRefusal, SameRefusal, ReadsProgram}

-- the other refusals of a text with a fault are the same
same_lexical : (main text : List ℕ) (fault : LexFault) → ReadsFault text (reader.Lex fault) → (other : Refusal) → IsRefusal main text other → SameRefusal (Lex fault) other
same_lexical main text fault read (Lex f) due = let e = read.only (reader.Lex f) due in let same : f ≡ fault = cc in ap Lex same
same_lexical main text fault read (Syntax f) due = let e = read.only (reader.Parse f) due in cc
same_lexical main text fault read (NotYet place) due = absurd (read.no_unit due.unit due.is_unit)

same_syntax : (main text : List ℕ) (fault : SyntaxFault) → ReadsFault text (reader.Parse fault) → (other : Refusal) → IsRefusal main text other → SameRefusal (Syntax fault) other
same_syntax main text fault read (Lex f) due = let e = read.only (reader.Lex f) due in cc
same_syntax main text fault read (Syntax f) due = let e = read.only (reader.Parse f) due in let same : f ≡ fault = cc in ap Syntax same
same_syntax main text fault read (NotYet place) due = absurd (read.no_unit due.unit due.is_unit)

-- a text without a unit is refused
pub unread : (main text : List ℕ) (fault : ReadFault) → Reads text (Err fault) → ReadsProgram main text (Err (of_read_fault fault))
unread main text (reader.Lex fault) read =
    record { refused = read.has_fault; only = same_lexical main text fault read; no_program = λ literals p. read.no_unit p.unit p.is_unit }
unread main text (reader.Parse fault) read =
    record { refused = read.has_fault; only = same_syntax main text fault read; no_program = λ literals p. read.no_unit p.unit p.is_unit }
unread main text reader.OutOfMemory read = tt

-- a program of a text that is read as this unit is this unit
program_of : (main text : List ℕ) (unit : SourceUnit) (literals : List Literal) → ReadsUnit text unit → IsProgramText main text literals → IsProgram main literals unit
program_of main text unit literals read p = subst (IsProgram main literals) (read.only p.unit p.is_unit) p.program

same_not_yet : (main text : List ℕ) (unit : SourceUnit) (place : Place) → ReadsUnit text unit → (other : Refusal) → IsRefusal main text other → SameRefusal (NotYet place) other
same_not_yet main text unit place read (Lex f) due = read.no_fault (reader.Lex f) due
same_not_yet main text unit place read (Syntax f) due = read.no_fault (reader.Parse f) due
same_not_yet main text unit place read (NotYet other) due = tt

-- a unit that is no program is refused
pub no_program : (main text : List ℕ) (unit : SourceUnit) (e : NoProgram) → ReadsUnit text unit → Decides (λ literals. IsProgram main literals unit) (Err e) → ReadsProgram main text (Err (of_no_program e))
no_program main text unit (form.NotYet place) read none =
    record {
      refused = record { unit = unit; is_unit = read.is_unit; other = none };
      only = same_not_yet main text unit place read;
      no_program = λ literals p. none literals (program_of main text unit literals read p);
    }
no_program main text unit form.OutOfMemory read none = tt

no_refusal : (main text : List ℕ) (unit : SourceUnit) (literals : List Literal) → ReadsUnit text unit → IsProgram main literals unit → (refusal : Refusal) → IsRefusal main text refusal → ⊥
no_refusal main text unit literals read program (Lex f) due = read.no_fault (reader.Lex f) due
no_refusal main text unit literals read program (Syntax f) due = read.no_fault (reader.Parse f) due
no_refusal main text unit literals read program (NotYet place) due = due.other literals (subst (IsProgram main literals) (sym (read.only due.unit due.is_unit)) program)

-- a unit that is a program is that alone
pub a_program : (main text : List ℕ) (unit : SourceUnit) (numbers : Vec ℤ Global) → ReadsUnit text unit → Decides (λ literals. IsProgram main literals unit) (Ok numbers) → ReadsProgram main text (Ok numbers)
a_program main text unit numbers read found = (
  found.0,
  record {
    program = record { unit = unit; is_unit = read.is_unit; program = found.1 };
    only = λ others p. one_unit main unit others found.0 (program_of main text unit others read p) found.1;
    no_refusal = no_refusal main text unit found.0 read found.1;
  },
  found.2,
)
