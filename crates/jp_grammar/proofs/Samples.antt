-- Tokens and parts with which what is begun can be completed.
use Rattle.std.proofs.Common.{◌≡◌, ℕ, zero, suc, ◌+◌, ◌≤◌, Bool, false, List, [], ◌∷◌, ◌++◌, refl}
use Rattle.jp_ast.specs.declared.token.Place.{Place}
use Rattle.jp_ast.specs.declared.token.Token.{Token}
use Rattle.jp_ast.specs.declared.token.Lexeme.TheVariants as lexeme
use Rattle.jp_ast.specs.declared.expr.Expr.{Expr}
use Rattle.jp_grammar.specs.Kinds.{IsName, Tokens, nowhere, kind_of_word, reserved}
use Rattle.jp_grammar.specs.Trees.{number_at}
use Rattle.jp_grammar.specs.Expressions.{Level, Unary, Plain, Postfix, Primary, Expression, strongest, weaker, unary_plain, plain_postfix, postfix, number, steps_end, chain_end, unconditional, expression}

-- `0`
abbrev pub a_number : Token
a_number = record { place = nowhere; lexeme = lexeme.Number 0 false }

-- `a`
abbrev pub a_name : Token
a_name = record { place = nowhere; lexeme = lexeme.Word (97 ∷ []) }

-- a sign
abbrev pub a_sign : ℕ → Token
a_sign n = record { place = nowhere; lexeme = lexeme.Sign n }

pub a_name_is : IsName (97 ∷ []) a_name
unfolding kind_of_word reserved
a_name_is = (refl, refl)

abbrev pub zero_expr : Expr
zero_expr = number_at nowhere 0 false

pub unary_number : (zs : Tokens) → Unary (a_number ∷ zs) zero_expr zs
unary_number zs = unary_plain (plain_postfix (postfix (number refl) steps_end))

pub level_number : (n : ℕ) (zs : Tokens) → Level n (a_number ∷ zs) zero_expr zs
level_number zero zs = strongest (unary_number zs)
level_number (suc n) zs = weaker (level_number n zs) chain_end

pub expression_number : (zs : Tokens) → Expression (a_number ∷ zs) zero_expr zs
expression_number zs = expression (level_number 10 zs) unconditional
