-- What the lexer and the parser answer, as an answer on the text.
use Rattle.std.proofs.Common.{◌≡◌, ℕ, List, Result, Ok, Err, ap, subst}
use Rattle.jp_ast.specs.declared.token.Place.{Place}
use Rattle.jp_ast.specs.declared.decl.SourceUnit.{SourceUnit}
use Rattle.jp_lexical.specs.declared.fault.LexFault.{LexFault}
use Rattle.jp_lexical.specs.Lexed.{Lexed, FirstFault}
use Rattle.jp_grammar.specs.declared.fault.ParseFault.{ParseFault}
use Rattle.jp_grammar.specs.declared.fault.ParseFault.TheVariants as parser
use Rattle.jp_grammar.specs.Kinds.{Tokens}
use Rattle.jp_grammar.specs.Faults.{Parsed, Parses, IsFault}
use Rattle.jp_lexer.specs.declared.tokens.LexErr.{LexErr}
use Rattle.jp_lexer.specs.declared.tokens.LexErr.TheVariants as lexer
use Rattle.jp_lexer.specs.Answer.{IfFault}
use Rattle.jp_read.specs.declared.fault.SyntaxFault.{SyntaxFault}
use Rattle.jp_read.specs.declared.fault.SyntaxKind.{SyntaxKind}
use Rattle.jp_read.specs.declared.fault.SyntaxKind.TheVariants.{Unexpected, Outside, TooDeep}
use Rattle.jp_read.specs.declared.fault.ReadFault.{ReadFault}
use Rattle.jp_read.specs.declared.fault.ReadFault.TheVariants.{Lex, Parse, OutOfMemory}
use Rattle.jp_read.specs.Faults.{of_lexer, of_parser, syntax_at, told}
use Rattle.jp_read.specs.Reads.{IsUnit, HasSyntaxFault, HasFault, ReadsUnit, ReadsFault, Reads}
use Rattle.jp_read.proofs.Faults.{fault_no_unit, one_fault}

-- the tokens of the text, and that it has no others and no lexical fault
pub record HasTokens (text : List ℕ) (tokens : Tokens) : Type 0 where
  pub lexed : Lexed text tokens
  pub only : (others : Tokens) → Lexed text others → others ≡ tokens
  pub no_fault : (fault : LexFault) → FirstFault text fault → ⊥

unit_of : {text : List ℕ} {tokens : Tokens} → HasTokens text tokens → (unit : SourceUnit) → IsUnit text unit → Parsed tokens unit
unit_of h unit u = subst (λ (x : Tokens). Parsed x unit) (h.only u.tokens u.lexed) u.parsed

fault_of : {text : List ℕ} {tokens : Tokens} → HasTokens text tokens → (fault : SyntaxFault) → HasSyntaxFault text fault → IsFault tokens (told fault.place fault.kind)
fault_of h fault f = subst (λ (x : Tokens). IsFault x (told fault.place fault.kind)) (h.only f.tokens f.lexed) f.tells

no_fault_of : {text : List ℕ} {tokens : Tokens} → HasTokens text tokens → (unit : SourceUnit) → Parsed tokens unit → (fault : ReadFault) → HasFault text fault → ⊥
no_fault_of h unit p (Lex fault) f = h.no_fault fault f
no_fault_of {tokens = tokens} h unit p (Parse fault) f = fault_no_unit tokens fault.place fault.kind (fault_of h fault f) unit p
no_fault_of h unit p OutOfMemory f = f

-- the tokens are a unit
reads_unit : (text : List ℕ) (tokens : Tokens) (unit : SourceUnit) → HasTokens text tokens → Parses tokens (Ok unit) → ReadsUnit text unit
reads_unit text tokens unit h p = record {
  is_unit = record { tokens = tokens; lexed = h.lexed; parsed = p.0 };
  only = λ other u. p.1 other (unit_of h other u);
  no_fault = no_fault_of h unit p.0;
}

only_syntax : {text : List ℕ} {tokens : Tokens} → HasTokens text tokens → (place : Place) (kind : SyntaxKind) → IsFault tokens (told place kind) →
    (other : ReadFault) → HasFault text other → other ≡ syntax_at place kind
only_syntax h place kind f (Lex other) o = absurd (h.no_fault other o)
only_syntax {tokens = tokens} h place kind f (Parse other) o = one_fault tokens other.place place other.kind kind (fault_of h other o) f
only_syntax h place kind f OutOfMemory o = absurd o

-- the tokens have a fault
syntax_read : (text : List ℕ) (tokens : Tokens) (place : Place) (kind : SyntaxKind) → HasTokens text tokens → IsFault tokens (told place kind) → ReadsFault text (syntax_at place kind)
syntax_read text tokens place kind h f = record {
  has_fault = record { tokens = tokens; lexed = h.lexed; tells = f };
  only = only_syntax h place kind f;
  no_unit = λ unit u. fault_no_unit tokens place kind f unit (unit_of h unit u);
}

pub parsed_reads : (text : List ℕ) (tokens : Tokens) (unit : SourceUnit) → HasTokens text tokens → Parses tokens (Ok unit) → Reads text (Ok unit)
parsed_reads text tokens unit h p = reads_unit text tokens unit h p

pub refused_reads : (text : List ℕ) (tokens : Tokens) (e : ParseFault) → HasTokens text tokens → Parses tokens (Err e) → Reads text (Err (of_parser e))
refused_reads text tokens (parser.Unexpected place) h f = syntax_read text tokens place Unexpected h f
refused_reads text tokens (parser.Outside place word) h f = syntax_read text tokens place (Outside word) h f
refused_reads text tokens (parser.TooDeep place) h f = syntax_read text tokens place TooDeep h f
refused_reads text tokens parser.OutOfMemory h f = tt

-- the text has a lexical fault and no other, and no tokens
pub record HasNoTokens (text : List ℕ) (fault : LexFault) : Type 0 where
  pub first : FirstFault text fault
  pub only : (other : LexFault) → FirstFault text other → other ≡ fault
  pub none : (tokens : Tokens) → Lexed text tokens → ⊥

only_lexical : {text : List ℕ} {fault : LexFault} → HasNoTokens text fault → (other : ReadFault) → HasFault text other → other ≡ Lex fault
only_lexical h (Lex other) o = ap (λ (f : LexFault). Lex f) (h.only other o)
only_lexical h (Parse other) o = absurd (h.none o.tokens o.lexed)
only_lexical h OutOfMemory o = absurd o

lexical_read : (text : List ℕ) (fault : LexFault) → HasNoTokens text fault → ReadsFault text (Lex fault)
lexical_read text fault h = record {
  has_fault = h.first;
  only = only_lexical h;
  no_unit = λ unit u. h.none u.tokens u.lexed;
}

lexed_not : (text : List ℕ) (e : LexErr) {A : Type 0} (r : Result A LexErr) → r ≡ Err e → IfFault r (λ fault. HasNoTokens text fault) → Reads text (Err (of_lexer e))
lexed_not text (lexer.Fault fault) {A} r is told =
    let h : HasNoTokens text fault = subst (λ (x : Result A LexErr). IfFault x (λ f. HasNoTokens text f)) is told in lexical_read text fault h
lexed_not text lexer.OutOfMemory r is told = tt

gathered : (text : List ℕ) {A : Type 0} (r : Result A LexErr) → IfFault r (λ fault. FirstFault text fault) → IfFault r (λ fault. (other : LexFault) → FirstFault text other → other ≡ fault) →
    IfFault r (λ fault. (tokens : Tokens) → Lexed text tokens → ⊥) → IfFault r (λ fault. HasNoTokens text fault)
gathered text (Ok tokens) first only none = tt
gathered text (Err (lexer.Fault fault)) first only none = record { first = first; only = only; none = none }
gathered text (Err lexer.OutOfMemory) first only none = tt

-- what the lexer tells of a text without tokens
pub unlexed_reads : (text : List ℕ) {A : Type 0} (r : Result A LexErr) (e : LexErr) → r ≡ Err e → IfFault r (λ fault. FirstFault text fault) →
    IfFault r (λ fault. (other : LexFault) → FirstFault text other → other ≡ fault) → IfFault r (λ fault. (tokens : Tokens) → Lexed text tokens → ⊥) → Reads text (Err (of_lexer e))
unlexed_reads text r e is first only none = lexed_not text e r is (gathered text r first only none)
