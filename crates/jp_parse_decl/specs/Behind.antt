-- Which tokens may stand behind the parts of a unit.
use Rattle.std.specs.Prelude.{Bool, true, false}
use Rattle.jp_ast.specs.declared.token.Token.{Token}
use Rattle.jp_ast.specs.declared.sign.TheConstants as sign
use Rattle.jp_grammar.specs.declared.kind.Kind.{Kind}
use Rattle.jp_grammar.specs.declared.kind.Kind.TheVariants as k
use Rattle.jp_grammar.specs.Kinds.{kind_of_token, is_sign_kind, is_sign_of}

-- a name
abbrev pub name_kind : Kind → Bool
name_kind k.Name = true
name_kind _ = false

-- `{` may stand behind a list of names or a guard
abbrev pub ends_brace : Token → Bool
ends_brace s = is_sign_of sign.OPEN_BRACE s

-- `implements` or `{`
abbrev pub super_kind : Kind → Bool
super_kind k.Implements = true
super_kind kind = is_sign_kind sign.OPEN_BRACE kind

-- `implements` or `{` may stand behind the superclass
abbrev pub ends_super : Token → Bool
ends_super s = super_kind (kind_of_token s)

-- the end of the text
abbrev pub end_kind : Kind → Bool
end_kind k.End = true
end_kind _ = false

-- the end of the text stands behind a unit
abbrev pub ends_end : Token → Bool
ends_end s = end_kind (kind_of_token s)

-- the word `super`
abbrev pub super_word : Kind → Bool
super_word k.Super = true
super_word _ = false
