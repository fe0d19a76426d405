-- With which tokens a part of an expression begins, and which ones may stand behind it without being read into it.
use Rattle.std.specs.Prelude.{ℕ, Bool, true, false, ◌==◌, ◌||◌, nat_le, List, [], ◌∷◌, Option, Some, None}
use Rattle.jp_ast.specs.declared.token.Token.{Token}
use Rattle.jp_ast.specs.declared.sign.TheConstants as sign
use Rattle.jp_grammar.specs.declared.kind.Kind.{Kind}
use Rattle.jp_grammar.specs.declared.kind.Kind.TheVariants as k
use Rattle.jp_grammar.specs.Kinds.{kind_of_token, is_sign_kind}
use Rattle.jp_grammar.specs.Expressions.{binds, is_negation, is_inversion}

-- a plain begins with it: an operand without `-` or `+` in front
abbrev pub begins_plain : Kind → Bool
begins_plain k.Name = true
begins_plain k.Number = true
begins_plain k.Text = true
begins_plain k.True = true
begins_plain k.False = true
begins_plain k.Null = true
begins_plain k.This = true
begins_plain k.Super = true
begins_plain k.New = true
begins_plain (k.Sign b) = is_inversion b || b == sign.OPEN_PAREN
begins_plain _ = false

-- it is `-` or `+`
abbrev pub negates : Kind → Bool
negates (k.Sign b) = is_negation b
negates _ = false

-- an expression begins with it
abbrev pub begins_expr : Kind → Bool
begins_expr kind = negates kind || begins_plain kind

-- the number is one of these
abbrev pub among : List ℕ → ℕ → Bool
among [] b = false
among (n ∷ ns) b = b == n || among ns b

-- `)`, `]`, `,`, `;`, `:`, `=`, `+=`, `-=`, `++` and `--`
abbrev pub behind_signs : List ℕ
behind_signs =
    sign.CLOSE_PAREN ∷ sign.CLOSE_BRACKET ∷ sign.COMMA ∷ sign.SEMICOLON ∷ sign.COLON
    ∷ sign.ASSIGN ∷ sign.ADD_ASSIGN ∷ sign.SUBTRACT_ASSIGN ∷ sign.INCREMENT ∷ sign.DECREMENT ∷ []

-- it may stand behind an expression
abbrev pub stands_behind : Kind → Bool
stands_behind k.End = true
stands_behind (k.Sign b) = among behind_signs b
stands_behind _ = false

-- the strength is this one or a weaker one
abbrev pub at_least : ℕ → Option ℕ → Bool
at_least n None = false
at_least n (Some m) = nat_le n m

-- it may stand behind Level n: behind an expression, or as `?` or a sign that binds at most so strongly
abbrev pub ends_kind : ℕ → Kind → Bool
ends_kind n kind = at_least n (binds kind) || (is_sign_kind sign.QUESTION kind || stands_behind kind)

-- the token may stand behind Level n
abbrev pub ends_level : ℕ → Token → Bool
ends_level n s = ends_kind n (kind_of_token s)

-- the token may stand behind an expression
abbrev pub ends_full : Token → Bool
ends_full s = stands_behind (kind_of_token s)

-- it may stand behind a primary: `.`, `[`, or what may stand behind an operand
abbrev pub primary_kind : Kind → Bool
primary_kind kind = (is_sign_kind sign.DOT kind || is_sign_kind sign.OPEN_BRACKET kind) || ends_kind 0 kind

-- the token may stand behind a primary
abbrev pub ends_primary : Token → Bool
ends_primary s = primary_kind (kind_of_token s)
