-- Faults of a text, as the lexer and the parser tell them.
use Rattle.jp_ast.specs.declared.token.Place.{Place}
use Rattle.jp_lexer.specs.declared.tokens.LexErr.{LexErr}
use Rattle.jp_lexer.specs.declared.tokens.LexErr.TheVariants as lexer
use Rattle.jp_grammar.specs.declared.fault.ParseFault.{ParseFault}
use Rattle.jp_grammar.specs.declared.fault.ParseFault.TheVariants as parser
use Rattle.jp_read.specs.declared.fault.SyntaxKind.{SyntaxKind}
use Rattle.jp_read.specs.declared.fault.SyntaxKind.TheVariants.{Unexpected, Outside, TooDeep}
use Rattle.jp_read.specs.declared.fault.ReadFault.{ReadFault}
use Rattle.jp_read.specs.declared.fault.ReadFault.TheVariants.{Lex, Parse, OutOfMemory}

-- what the lexer told
abbrev pub of_lexer : LexErr → ReadFault
of_lexer (lexer.Fault fault) = Lex fault
of_lexer lexer.OutOfMemory = OutOfMemory

-- a fault of this kind at the place
abbrev pub syntax_at : Place → SyntaxKind → ReadFault
syntax_at place kind = Parse (record { place = place; kind = kind })

-- what the parser told
abbrev pub of_parser : ParseFault → ReadFault
of_parser (parser.Unexpected place) = syntax_at place Unexpected
of_parser (parser.Outside place word) = syntax_at place (Outside word)
of_parser (parser.TooDeep place) = syntax_at place TooDeep
of_parser parser.OutOfMemory = OutOfMemory

-- how the parser tells a fault of this kind at the place
abbrev pub told : Place → SyntaxKind → ParseFault
told place Unexpected = parser.Unexpected place
told place (Outside word) = parser.Outside place word
told place TooDeep = parser.TooDeep place
