-- Which tokens may stand behind a part of a statement without being read into it.
use Rattle.std.specs.Prelude.{Bool, true, not, [], ◌∷◌}
use Rattle.jp_ast.specs.declared.token.Token.{Token}
use Rattle.jp_ast.specs.declared.sign.TheConstants as sign
use Rattle.jp_grammar.specs.declared.kind.Kind.{Kind}
use Rattle.jp_grammar.specs.declared.kind.Kind.TheVariants as k
use Rattle.jp_grammar.specs.Kinds.{kind_of_token, is_sign_of}
use Rattle.jp_grammar.specs.Behind.{among}
use Rattle.std.specs.Prelude.{false}

-- any token
abbrev pub anything : Token → Bool
anything s = true

-- any token but `[`
abbrev pub ends_type : Token → Bool
ends_type s = not (is_sign_of sign.OPEN_BRACKET s)

-- `;` or `)`
abbrev pub change_kind : Kind → Bool
change_kind (k.Sign b) = among (sign.SEMICOLON ∷ sign.CLOSE_PAREN ∷ []) b
change_kind _ = false

-- the token may stand behind a change
abbrev pub ends_change : Token → Bool
ends_change s = change_kind (kind_of_token s)
