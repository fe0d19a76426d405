-- What is printed is read as the same unit, places aside.
use Rattle.std.specs.Prelude.{◌≡◌, ℕ, List, ◌⊎◌}
use Rattle.std.specs.List.{AllByRecursion}
use Rattle.jp_ast.specs.declared.token.Token.{Token}
use Rattle.jp_ast.specs.declared.token.Lexeme.{Lexeme}
use Rattle.jp_ast.specs.declared.token.Lexeme.TheVariants.{End}
use Rattle.jp_ast.specs.declared.decl.SourceUnit.{SourceUnit}
use Rattle.jp_lexical.specs.Tokens.{Spells}
use Rattle.jp_lexical.specs.Lexed.{Lexed}
use Rattle.jp_grammar.specs.Faults.{Parsed}
use Rattle.jp_print.specs.Declarations.{printed_unit}
use Rattle.jp_print.specs.Places.{unplaced_unit}

-- some bytes are the token's
pub record HasForm (lexeme : Lexeme) : Type 0 where
  pub bytes : List ℕ
  pub spells : Spells lexeme bytes

-- the token has a lexical form, or is the end of a text
abbrev pub IsFormed : Token → Type 0
IsFormed token = (token.lexeme ≡ End) ⊎ HasForm token.lexeme

-- places aside, the grammar gives the unit for some tokens of the lexical forms
pub record IsOfGrammar (unit : SourceUnit) : Type 0 where
  pub tokens : List Token
  pub other : SourceUnit
  pub formed : AllByRecursion IsFormed tokens
  pub parsed : Parsed tokens other
  pub same : unplaced_unit other ≡ unplaced_unit unit

-- the text has tokens for which the grammar gives the unit, places aside
pub record ReadsBack (text : List ℕ) (unit : SourceUnit) : Type 0 where
  pub tokens : List Token
  pub again : SourceUnit
  pub lexed : Lexed text tokens
  pub parsed : Parsed tokens again
  pub same : unplaced_unit again ≡ unplaced_unit unit

-- each unit that the grammar gives, places aside, is printed as a text that reads back as it
abbrev pub PrintedReadsBack : Type 0
PrintedReadsBack = (unit : SourceUnit) → IsOfGrammar unit → ReadsBack (printed_unit unit) unit

-- each unit that is read from a text is printed as a text that reads back as it
abbrev pub ReadReadsBack : Type 0
ReadReadsBack = (text : List ℕ) (tokens : List Token) (unit : SourceUnit) → Lexed text tokens → Parsed tokens unit → ReadsBack (printed_unit unit) unit

-- units that are the same, places aside, are printed alike
abbrev pub PlacesAreNotPrinted : Type 0
PlacesAreNotPrinted = (unit other : SourceUnit) → unplaced_unit unit ≡ unplaced_unit other → printed_unit unit ≡ printed_unit other
