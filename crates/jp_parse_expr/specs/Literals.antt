-- Expressions of one token.
use Rattle.std.specs.Prelude.{◌≡◌, Bool, true, false, Option, Some, None, ◌⊎◌}
use Rattle.jp_ast.specs.declared.token.Place.{Place}
use Rattle.jp_ast.specs.declared.token.Token.{Token}
use Rattle.jp_ast.specs.declared.token.Lexeme.{Lexeme}
use Rattle.jp_ast.specs.declared.token.Lexeme.TheVariants as lexeme
use Rattle.jp_ast.specs.declared.expr.Expr.{Expr}
use Rattle.jp_ast.specs.declared.expr.ExprKind.{ExprKind}
use Rattle.jp_grammar.specs.declared.kind.Kind.{Kind}
use Rattle.jp_grammar.specs.declared.kind.Kind.TheVariants as k
use Rattle.jp_grammar.specs.declared.fault.ParseFault.{ParseFault}
use Rattle.jp_grammar.specs.declared.fault.ParseFault.TheVariants.{OutOfMemory}
use Rattle.jp_grammar.specs.Kinds.{Is, IsSign, kind_of_word}
use Rattle.jp_ast.specs.declared.sign.TheConstants as sign
use Rattle.jp_grammar.specs.Trees.{number_at, text_at, truth_at, null_at, this_at}
use Rattle.jp_grammar.specs.Reading.{Refused}

-- a node at its place
abbrev pub node_at : Place → ExprKind → Expr
node_at at kind = record { place = at; kind = kind }

-- `true`, `false`, `null` or `this`
abbrev pub constant_at : Place → Kind → Option Expr
constant_at at k.True = Some (truth_at at true)
constant_at at k.False = Some (truth_at at false)
constant_at at k.Null = Some (null_at at)
constant_at at k.This = Some (this_at at)
constant_at at _ = None

-- the expression that the lexeme is by itself, where it is one
abbrev pub literal_at : Place → Lexeme → Option Expr
literal_at at (lexeme.Number value hex) = Some (number_at at value hex)
literal_at at (lexeme.Text text) = Some (text_at at text)
literal_at at (lexeme.Word word) = constant_at at (kind_of_word word)
literal_at at (lexeme.Sign sign) = None
literal_at at lexeme.End = None

-- the expression that the token is by itself, where it is one
abbrev pub literal_of : Token → Option Expr
literal_of s = literal_at s.place s.lexeme

-- memory is wanting; or there is no such expression, and the token is refused
abbrev pub RefusedAs : Option Expr → Token → ParseFault → Type 0
RefusedAs found s e = (e ≡ OutOfMemory) ⊎ ((found ≡ None) × Refused s e)

-- no name, no parenthesis, and neither `super` nor `new`
pub record Single (s : Token) : Type 0 where
  pub no_name : Is k.Name s → ⊥
  pub no_super : Is k.Super s → ⊥
  pub no_new : Is k.New s → ⊥
  pub no_paren : IsSign sign.OPEN_PAREN s → ⊥
