-- Parts of an atom behind what was read of it before, and what the functions that read them answer.
use Rattle.std.specs.Prelude.{◌≡◌, ℕ, ◌==◌, ◌||◌, not, Bool, true, false, List, [], ◌∷◌, Option, Some, None, Result, Ok, Err, IsTrue, ◌⊎◌}
use Rattle.std.specs.Borrow.{Bor}
use Rattle.jp_ast.specs.declared.token.Place.{Place}
use Rattle.jp_ast.specs.declared.token.Token.{Token}
use Rattle.jp_ast.specs.declared.guard.PathText.{PathText}
use Rattle.jp_ast.specs.declared.guard.Summand.{Summand}
use Rattle.jp_ast.specs.declared.guard.GuardExpr.{GuardExpr}
use Rattle.jp_ast.specs.declared.guard.GuardKind.{GuardKind}
use Rattle.jp_ast.specs.declared.guard.GuardKind.TheVariants as made
use Rattle.jp_ast.specs.declared.sign.TheConstants as sign
use Rattle.jp_grammar.specs.declared.kind.Kind.{Kind}
use Rattle.jp_grammar.specs.declared.kind.Kind.TheVariants as k
use Rattle.jp_grammar.specs.declared.fault.ParseFault.{ParseFault}
use Rattle.jp_grammar.specs.declared.fault.ParseFault.TheVariants.{OutOfMemory}
use Rattle.jp_grammar.specs.Kinds.{Is, IsSign, IsName, IsNumber, Tokens, kind_of_token}
use Rattle.jp_grammar.specs.Guards.{Path, Term, Lin, Terms, summand_at, is_comparison}
use Rattle.jp_grammar.specs.Reading.{Reads, Any, Found, Fails, Refused}

-- what a function answers that reads a part of which nothing is too deep: the part and the tokens behind it, or the
-- fault
abbrev pub GivesAll : {T : Type 0} → Reads T → (Token → Bool) → Tokens → Result (T × Bor Tokens) ParseFault → Type 0
GivesAll R ends xs (Ok x) = Found R (λ _. ends) xs x.0 x.1.now
GivesAll R ends xs (Err e) = Fails R (λ _. ends) ends Any xs e

-- what a function answers that reads a guard: the tree, its depth and the tokens behind it, or the fault
abbrev pub ReadGuard : Type 0
ReadGuard = Result (GuardExpr × ℕ × Bor Tokens) ParseFault

-- a node at its place
abbrev pub guard_at : Place → GuardKind → GuardExpr
guard_at at kind = record { place = at; kind = kind }

-- `this` or a name
abbrev pub is_root : Kind → Bool
is_root k.This = true
is_root k.Name = true
is_root _ = false

-- a truth, `this` or a name
abbrev pub is_simple : Kind → Bool
is_simple k.True = true
is_simple k.False = true
is_simple k.This = true
is_simple k.Name = true
is_simple _ = false

-- the word of a truth
abbrev pub truth_kind : Bool → Kind
truth_kind true = k.True
truth_kind false = k.False

-- `==` or `!=`
abbrev pub is_equality : ℕ → Bool
is_equality b = b == sign.EQUAL || b == sign.NOT_EQUAL

-- a sum goes on with it behind a path: `*`, `+`, `-` or a comparison
abbrev pub goes_on : Kind → Bool
goes_on (k.Sign b) = b == sign.TIMES || b == sign.PLUS || b == sign.MINUS || is_comparison b
goes_on _ = false

-- `path@class`, and the name behind `as` where there is one
abbrev pub class_at : PathText → List ℕ → Option (List ℕ) → GuardExpr
class_at p class alias = record { place = p.place; kind = made.Is p class alias }

-- `path as name`
abbrev pub alias_at : PathText → List ℕ → GuardExpr
alias_at p name = record { place = p.place; kind = made.Alias p name }

-- `path == null`, or `path != null`
abbrev pub null_at : PathText → Bool → GuardExpr
null_at p equal = record { place = p.place; kind = made.NullTest p equal }

-- a path that stands alone
abbrev pub flag_at : PathText → GuardExpr
flag_at p = record { place = p.place; kind = made.Flag p }

-- `left sign right`
abbrev pub compared_at : Place → List Summand → ℕ → List Summand → GuardExpr
compared_at at left b right = record { place = at; kind = made.Compare left b right }

-- a path as a sum
abbrev pub path_sum : PathText → List Summand
path_sum p = summand_at p.place false None (Some p) ∷ []

-- ["*" NUMBER], behind a path
pub data Scaled : Place → Bool → PathText → Tokens → Summand → Tokens → Type 0 where
  unscaled : {at : Place} {negative : Bool} {p : PathText} {xs : Tokens} → Scaled at negative p xs (summand_at at negative None (Some p)) xs
  scaled : {at : Place} {negative hex : Bool} {value : ℕ} {p : PathText} {m s : Token} {zs : Tokens} →
      IsSign sign.TIMES m → IsNumber value hex s → Scaled at negative p (m ∷ s ∷ zs) (summand_at at negative (Some (value, hex)) (Some p)) zs

-- ["*" path], behind a number
pub data Multiplied : Place → Bool → ℕ → Bool → Tokens → Summand → Tokens → Type 0 where
  unmultiplied : {at : Place} {negative hex : Bool} {value : ℕ} {xs : Tokens} → Multiplied at negative value hex xs (summand_at at negative (Some (value, hex)) None) xs
  multiplied : {at : Place} {negative hex : Bool} {value : ℕ} {m : Token} {xs zs : Tokens} {p : PathText} →
      IsSign sign.TIMES m → Path xs p zs → Multiplied at negative value hex (m ∷ xs) (summand_at at negative (Some (value, hex)) (Some p)) zs

-- the token is neither `-` nor `+`
abbrev pub NoSummand : Token → Type 0
NoSummand s = (IsSign sign.MINUS s → ⊥) × (IsSign sign.PLUS s → ⊥)

-- term {("+" | "-") term}, of which the first begins at the place
abbrev pub Begun : Place → Bool → Reads (List Summand)
Begun at negative xs sum zs = (a : Summand) × (ys : Tokens) × Term at negative xs a ys × Terms (a ∷ []) ys sum zs

-- ["*" NUMBER] {("+" | "-") term}, behind a path
abbrev pub Summed : PathText → Reads (List Summand)
Summed p xs sum zs = (a : Summand) × (ys : Tokens) × Scaled p.place false p xs a ys × Terms (a ∷ []) ys sum zs

-- ("==" | "!=" | "<" | "<=" | ">" | ">=") lin, behind a sum
pub data Compared : Place → List Summand → Tokens → GuardExpr → Tokens → Type 0 where
  compared : {at : Place} {left right : List Summand} {b : ℕ} {s : Token} {xs zs : Tokens} →
      IsSign b s → IsTrue (is_comparison b) → Lin xs right zs → Compared at left (s ∷ xs) (compared_at at left b right) zs

-- "null" | lin, behind a path and `==` or `!=`
pub data Equated : PathText → ℕ → Tokens → GuardExpr → Tokens → Type 0 where
  to_null : {p : PathText} {b : ℕ} {n : Token} {zs : Tokens} → Is k.Null n → Equated p b (n ∷ zs) (null_at p (b == sign.EQUAL)) zs
  to_sum : {p : PathText} {b : ℕ} {xs zs : Tokens} {right : List Summand} → Lin xs right zs → Equated p b xs (compared_at p.place (path_sum p) b right) zs

-- ["as" NAME], behind a path, `@` and a class
pub data Classed : PathText → List ℕ → Tokens → GuardExpr → Tokens → Type 0 where
  unnamed : {p : PathText} {class : List ℕ} {xs : Tokens} → Classed p class xs (class_at p class None) xs
  named_so : {p : PathText} {class name : List ℕ} {b d : Token} {zs : Tokens} →
      Is k.As b → IsName name d → Classed p class (b ∷ d ∷ zs) (class_at p class (Some name)) zs

-- NAME ["as" NAME], behind a path and `@`
pub data Tested : PathText → Tokens → GuardExpr → Tokens → Type 0 where
  tested : {p : PathText} {c : Token} {xs zs : Tokens} {class : List ℕ} {t : GuardExpr} → IsName class c → Classed p class xs t zs → Tested p (c ∷ xs) t zs

-- NAME, behind a path and `as`
pub data Aliased : PathText → Tokens → GuardExpr → Tokens → Type 0 where
  aliased : {p : PathText} {d : Token} {zs : Tokens} {name : List ℕ} → IsName name d → Aliased p (d ∷ zs) (alias_at p name) zs

-- a sum that begins with the path, and a comparison
abbrev pub Measured : PathText → Reads GuardExpr
Measured p xs t zs = (left : List Summand) × (ys : Tokens) × Summed p xs left ys × Compared p.place left ys t zs

-- what makes an atom of a path that was read
pub data Pathed : PathText → Tokens → GuardExpr → Tokens → Type 0 where
  of_class : {p : PathText} {s : Token} {xs zs : Tokens} {t : GuardExpr} → IsSign sign.AT s → Tested p xs t zs → Pathed p (s ∷ xs) t zs
  of_name : {p : PathText} {s : Token} {xs zs : Tokens} {t : GuardExpr} → Is k.As s → Aliased p xs t zs → Pathed p (s ∷ xs) t zs
  of_equality : {p : PathText} {b : ℕ} {s : Token} {xs zs : Tokens} {t : GuardExpr} → IsSign b s → IsTrue (is_equality b) → Equated p b xs t zs → Pathed p (s ∷ xs) t zs
  of_sum : {p : PathText} {xs zs : Tokens} {t : GuardExpr} → Measured p xs t zs → Pathed p xs t zs
  of_flag : {p : PathText} {xs : Tokens} → Pathed p xs (flag_at p) xs

-- the token is no root of a path, and is refused; or memory is wanting
abbrev pub RefusedRoot : Token → ParseFault → Type 0
RefusedRoot s e = (e ≡ OutOfMemory) ⊎ (IsTrue (not (is_root (kind_of_token s))) × Refused s e)

-- the list begins with a parenthesis
pub record OpensGuard (xs : Tokens) : Type 0 where
  pub first : Token
  pub rest : Tokens
  pub split : xs ≡ first ∷ rest
  pub is_open : IsSign sign.OPEN_PAREN first
