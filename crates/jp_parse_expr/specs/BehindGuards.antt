-- Which tokens may stand behind a guard and its parts without being read into them.
use Rattle.std.specs.Prelude.{ℕ, Bool, true, false, ◌==◌, ◌||◌, if◌then◌else◌, List, [], ◌∷◌, Option, Some, None}
use Rattle.jp_ast.specs.declared.token.Token.{Token}
use Rattle.jp_ast.specs.declared.sign.TheConstants as sign
use Rattle.jp_grammar.specs.declared.kind.Kind.{Kind}
use Rattle.jp_grammar.specs.declared.kind.Kind.TheVariants as k
use Rattle.jp_grammar.specs.Kinds.{kind_of_token, is_sign_kind}
use Rattle.jp_grammar.specs.Behind.{among, at_least}
use Rattle.jp_grammar.specs.Guards.{is_comparison}

-- `{`, `)` or the end of the text may stand behind a guard
abbrev pub stands_behind_guard : Kind → Bool
stands_behind_guard k.End = true
stands_behind_guard (k.Sign b) = among (sign.OPEN_BRACE ∷ sign.CLOSE_PAREN ∷ []) b
stands_behind_guard _ = false

-- the token may stand behind a guard
abbrev pub ends_guard : Token → Bool
ends_guard s = stands_behind_guard (kind_of_token s)

-- how strongly a sign joins guards: 0 for `&&`, 1 for `||`
abbrev pub join_strength : ℕ → Option ℕ
join_strength b = if b == sign.AND then Some 0 else if b == sign.OR then Some 1 else None

-- the strength of a kind that joins guards
abbrev pub joins : Kind → Option ℕ
joins (k.Sign b) = join_strength b
joins _ = None

-- it may stand behind Level n: behind a guard, or as a sign that joins at most so strongly
abbrev pub join_kind : ℕ → Kind → Bool
join_kind n kind = at_least n (joins kind) || stands_behind_guard kind

-- the token may stand behind Level n
abbrev pub ends_join : ℕ → Token → Bool
ends_join n s = join_kind n (kind_of_token s)

-- it is `<`, `<=`, `>`, `>=`, `==` or `!=`
abbrev pub compares : Kind → Bool
compares (k.Sign b) = is_comparison b
compares _ = false

-- it may stand behind a sum: a comparison, or what may stand behind an atom
abbrev pub sum_kind : Kind → Bool
sum_kind kind = compares kind || join_kind 0 kind

-- the token may stand behind a sum
abbrev pub ends_sum : Token → Bool
ends_sum s = sum_kind (kind_of_token s)

-- it may stand behind a term: `+`, `-`, or what may stand behind a sum
abbrev pub term_kind : Kind → Bool
term_kind kind = (is_sign_kind sign.PLUS kind || is_sign_kind sign.MINUS kind) || sum_kind kind

-- the token may stand behind a term
abbrev pub ends_term : Token → Bool
ends_term s = term_kind (kind_of_token s)

-- it is the word `as`
abbrev pub is_as : Kind → Bool
is_as k.As = true
is_as _ = false

-- it may stand behind a path: `*`, `@`, `as`, or what may stand behind a term
abbrev pub path_kind : Kind → Bool
path_kind kind = ((is_sign_kind sign.TIMES kind || is_sign_kind sign.AT kind) || is_as kind) || term_kind kind

-- the token may stand behind a path
abbrev pub ends_path : Token → Bool
ends_path s = path_kind (kind_of_token s)
