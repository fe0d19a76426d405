-- What the reader of texts answers: the text's unit, or what is wrong with the text.
use Rattle.std.specs.Prelude.{◌≡◌, ℕ, List, Result, Ok, Err}
use Rattle.jp_ast.specs.declared.decl.SourceUnit.{SourceUnit}
use Rattle.jp_lexical.specs.Lexed.{Lexed, FirstFault}
use Rattle.jp_grammar.specs.Kinds.{Tokens}
use Rattle.jp_grammar.specs.Faults.{Parsed, IsFault}
use Rattle.jp_read.specs.declared.fault.SyntaxFault.{SyntaxFault}
use Rattle.jp_read.specs.declared.fault.ReadFault.{ReadFault}
use Rattle.jp_read.specs.declared.fault.ReadFault.TheVariants.{Lex, Parse, OutOfMemory}
use Rattle.jp_read.specs.Faults.{told}

-- the text has tokens for which the grammar gives the unit, with no tree more than 200 deep
pub record IsUnit (text : List ℕ) (unit : SourceUnit) : Type 0 where
  pub tokens : Tokens
  pub lexed : Lexed text tokens
  pub parsed : Parsed tokens unit

-- the text has tokens, and this is the first one with which no unit goes on, and why
pub record HasSyntaxFault (text : List ℕ) (fault : SyntaxFault) : Type 0 where
  pub tokens : Tokens
  pub lexed : Lexed text tokens
  pub tells : IsFault tokens (told fault.place fault.kind)

-- what is first wrong with the text
abbrev pub HasFault : List ℕ → ReadFault → Type 0
HasFault text (Lex fault) = FirstFault text fault
HasFault text (Parse fault) = HasSyntaxFault text fault
HasFault text OutOfMemory = ⊥

-- the text is the unit, and no other, and nothing is wrong with it
pub record ReadsUnit (text : List ℕ) (unit : SourceUnit) : Type 0 where
  pub is_unit : IsUnit text unit
  pub only : (other : SourceUnit) → IsUnit text other → other ≡ unit
  pub no_fault : (fault : ReadFault) → HasFault text fault → ⊥

-- this is wrong with the text, and nothing else, and it is no unit
pub record ReadsFault (text : List ℕ) (fault : ReadFault) : Type 0 where
  pub has_fault : HasFault text fault
  pub only : (other : ReadFault) → HasFault text other → other ≡ fault
  pub no_unit : (unit : SourceUnit) → IsUnit text unit → ⊥

-- the unit, or the fault; nothing is said where memory is wanting
abbrev pub Reads : List ℕ → Result SourceUnit ReadFault → Type 0
Reads text (Ok unit) = ReadsUnit text unit
Reads text (Err OutOfMemory) = Unit {0}
Reads text (Err fault) = ReadsFault text fault
