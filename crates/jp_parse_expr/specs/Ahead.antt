-- What the next tokens say of an operand.
use Rattle.std.specs.Prelude.{◌≡◌, Bool, true, false, ◌&&◌, List, [], ◌∷◌}
use Rattle.jp_ast.specs.declared.token.Token.{Token}
use Rattle.jp_ast.specs.declared.sign.TheConstants as sign
use Rattle.jp_grammar.specs.declared.kind.Kind.{Kind}
use Rattle.jp_grammar.specs.declared.kind.Kind.TheVariants as k
use Rattle.jp_grammar.specs.Kinds.{Tokens, IsSign, kind_of_token, is_sign_of}
use Rattle.jp_grammar.specs.Behind.{begins_plain}

abbrev pub is_name : Kind → Bool
is_name k.Name = true
is_name _ = false

-- a token that begins a plain
abbrev pub is_plain_next : Tokens → Bool
is_plain_next [] = false
is_plain_next (s ∷ xs) = begins_plain (kind_of_token s)

-- ")" and a token that begins a plain
abbrev pub is_cast_end : Tokens → Bool
is_cast_end [] = false
is_cast_end (p ∷ xs) = is_sign_of sign.CLOSE_PAREN p && is_plain_next xs

-- NAME ")" and a token that begins a plain: behind "(" that is a cast
abbrev pub is_cast : Tokens → Bool
is_cast [] = false
is_cast (c ∷ xs) = is_name (kind_of_token c) && is_cast_end xs

-- the list begins with a parenthesis that begins no cast
pub record Opens (xs : Tokens) : Type 0 where
  pub first : Token
  pub rest : Tokens
  pub split : xs ≡ first ∷ rest
  pub is_open : IsSign sign.OPEN_PAREN first
  pub no_cast : is_cast rest ≡ false
