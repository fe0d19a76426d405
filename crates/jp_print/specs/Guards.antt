-- The tokens that a guard is printed as, and where parentheses stand.
use Rattle.std.specs.Prelude.{ℕ, zero, suc, Bool, true, false, if◌then◌else◌, List, [], ◌∷◌, ◌++◌, flat_map, Option, Some, None, codes}
use Rattle.jp_ast.specs.declared.token.Lexeme.{Lexeme}
use Rattle.jp_ast.specs.declared.token.Lexeme.TheVariants.{Word, Number, Sign}
use Rattle.jp_ast.specs.declared.guard.PathText.{PathText}
use Rattle.jp_ast.specs.declared.guard.Summand.{Summand}
use Rattle.jp_ast.specs.declared.guard.GuardExpr.{GuardExpr, fold-GuardExpr}
use Rattle.jp_ast.specs.declared.guard.GuardKind.{GuardKind-F}
use Rattle.jp_ast.specs.declared.guard.GuardKind.TheOpen as guard_kind
use Rattle.jp_ast.specs.declared.sign.TheConstants as sign
use Rattle.jp_print.specs.Expressions.{in_parens, maybe, dot_name, truth_word}

-- the root, and each step behind a `.`
abbrev pub path_tokens : PathText → List Lexeme
path_tokens path = Word path.root ∷ flat_map dot_name path.steps

-- a number, as a factor or alone
abbrev pub number_token : ℕ × Bool → Lexeme
number_token number = Number number.0 number.1

-- a number, a path, or a number `*` a path: the factor stands in front of its path
abbrev pub term_tokens : Option (ℕ × Bool) → Option PathText → List Lexeme
term_tokens None path = maybe path_tokens path
term_tokens (Some factor) None = number_token factor ∷ []
term_tokens (Some factor) (Some path) = number_token factor ∷ Sign sign.TIMES ∷ path_tokens path

-- the first summand of a sum, with a `-` where it is negative
abbrev pub first_summand : Summand → List Lexeme
first_summand a = if a.negative then Sign sign.MINUS ∷ term_tokens a.factor a.path else term_tokens a.factor a.path

-- a further summand, behind `-` or `+`
abbrev pub next_summand : Summand → List Lexeme
next_summand a = Sign (if a.negative then sign.MINUS else sign.PLUS) ∷ term_tokens a.factor a.path

-- the summand at this place of a sum
abbrev pub summand_at : ℕ → Summand → List Lexeme
summand_at zero a = first_summand a
summand_at (suc place) a = next_summand a

-- a sum
abbrev pub sum_tokens : List Summand → List Lexeme
sum_tokens [] = []
sum_tokens (first ∷ others) = first_summand first ++ flat_map next_summand others

-- `as` and a name
abbrev pub as_name : List ℕ → List Lexeme
as_name name = Word (codes "as") ∷ Word name ∷ []

-- `@`, the name of a class, and `as` and a name where there is one
abbrev pub class_test : List ℕ → Option (List ℕ) → List Lexeme
class_test class alias = Sign sign.AT ∷ Word class ∷ maybe as_name alias

-- `==` or `!=`, and `null`
abbrev pub null_test : Bool → List Lexeme
null_test equal = Sign (if equal then sign.EQUAL else sign.NOT_EQUAL) ∷ Word (codes "null") ∷ []

-- a guard as it is printed: its tokens, and whether it is an atom
pub record PrintedGuard : Type 0 where
  pub tokens : List Lexeme
  pub atom : Bool

abbrev pub atomic : List Lexeme → PrintedGuard
atomic tokens = record { tokens = tokens; atom = true }

abbrev pub composed : List Lexeme → PrintedGuard
composed tokens = record { tokens = tokens; atom = false }

-- a guard as a part of another: in parentheses if it isn't an atom
abbrev pub guard_part : PrintedGuard → List Lexeme
guard_part part = if part.atom then part.tokens else in_parens part.tokens

-- each form of a guard, over what its parts are printed as
abbrev pub guard_step : GuardKind-F PrintedGuard PrintedGuard → PrintedGuard
guard_step (guard_kind.Truth value) = atomic (truth_word value ∷ [])
guard_step (guard_kind.Not right) = composed (Sign sign.NOT ∷ guard_part right)
guard_step (guard_kind.And left right) = composed (guard_part left ++ Sign sign.AND ∷ guard_part right)
guard_step (guard_kind.Or left right) = composed (guard_part left ++ Sign sign.OR ∷ guard_part right)
guard_step (guard_kind.Is path class alias) = atomic (path_tokens path ++ class_test class alias)
guard_step (guard_kind.Alias path name) = atomic (path_tokens path ++ as_name name)
guard_step (guard_kind.NullTest path equal) = atomic (path_tokens path ++ null_test equal)
guard_step (guard_kind.Flag path) = atomic (path_tokens path)
guard_step (guard_kind.Compare left sign right) = atomic (sum_tokens left ++ Sign sign ∷ sum_tokens right)

-- a guard as it is printed
unfoldable pub printed_guard : GuardExpr → PrintedGuard
printed_guard = fold-GuardExpr PrintedGuard PrintedGuard guard_step (λ g. g.kind)

-- the tokens of a guard that is part of no other
abbrev pub guard_tokens : GuardExpr → List Lexeme
guard_tokens g = (printed_guard g).tokens
