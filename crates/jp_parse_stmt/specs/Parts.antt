-- Parts of a statement behind what was read of it before, and what the functions that read them answer.
use Rattle.std.specs.Prelude.{◌≡◌, ℕ, ◌==◌, ◌≤◌, Bool, true, false, if◌then◌else◌, [], ◌∷◌, Option, Some, None, Result, Ok, Err, IsTrue, ◌⊎◌}
use Rattle.std.specs.Borrow.{Bor}
use Rattle.jp_pred.specs.declared.ty.Ty.{Ty}
use Rattle.jp_ast.specs.declared.token.Place.{Place}
use Rattle.jp_ast.specs.declared.token.Token.{Token}
use Rattle.jp_ast.specs.declared.expr.Expr.{Expr}
use Rattle.jp_ast.specs.declared.stmt.Stmt.{Stmt}
use Rattle.jp_ast.specs.declared.stmt.StmtKind.{StmtKind}
use Rattle.jp_ast.specs.declared.stmt.StmtKind.TheVariants as made
use Rattle.jp_ast.specs.declared.sign.TheConstants as sign
use Rattle.jp_grammar.specs.declared.kind.Kind.{Kind}
use Rattle.jp_grammar.specs.declared.kind.Kind.TheVariants as k
use Rattle.jp_grammar.specs.declared.fault.ParseFault.{ParseFault}
use Rattle.jp_grammar.specs.declared.fault.ParseFault.TheVariants.{OutOfMemory}
use Rattle.jp_grammar.specs.Kinds.{IsSign, Tokens}
use Rattle.jp_grammar.specs.Depth.{deepest}
use Rattle.jp_grammar.specs.Expressions.{Expression, IsElement}
use Rattle.jp_grammar.specs.Statements.{is_assignment, IsBump}
use Rattle.jp_grammar.specs.Reading.{Reads, Found, Fails, Refused}

-- what a function answers that reads a part: the part, which is small, and the tokens behind it, or the fault
abbrev pub Gets : {T : Type 0} → Reads T → (Token → Bool) → (T → Type 0) → Tokens → Result (T × Bor Tokens) ParseFault → Type 0
Gets R ends P xs (Ok x) = Found R (λ _. ends) xs x.0 x.1.now × P x.0
Gets R ends P xs (Err e) = Fails R (λ _. ends) ends P xs e

-- the expressions in the statement are at most 200 deep
abbrev pub Shallow : Stmt → Type 0
Shallow t = deepest t ≤ 200

-- a node at its place
abbrev pub stmt_at : Place → StmtKind → Stmt
stmt_at at kind = record { place = at; kind = kind }

-- the token is no type of elements, and is refused; or memory is wanting
abbrev pub RefusedElement : Token → ParseFault → Type 0
RefusedElement s e = (e ≡ OutOfMemory) ⊎ (((t : Ty) → IsElement t s → ⊥) × Refused s e)

-- the number of the sign, where it is an assignment's
abbrev pub assignment_of : Kind → Option ℕ
assignment_of (k.Sign b) = if is_assignment b then Some b else None
assignment_of _ = None

-- whether it goes up, where the kind is `++` or `--`
abbrev pub bump_of : Kind → Option Bool
bump_of (k.Sign b) = if b == sign.INCREMENT then Some true else if b == sign.DECREMENT then Some false else None
bump_of _ = None

-- [ ("=" | "+=" | "-=") expr | "++" | "--" ], behind a left side that begins at the place
pub data Changed : Place → Expr → Tokens → Stmt → Tokens → Type 0 where
  assigned : {at : Place} {left right : Expr} {b : ℕ} {s : Token} {xs zs : Tokens} →
      IsSign b s → IsTrue (is_assignment b) → Expression xs right zs → Changed at left (s ∷ xs) (stmt_at at (made.Assign left b right)) zs
  bumped : {at : Place} {left : Expr} {up : Bool} {s : Token} {zs : Tokens} → IsBump up s → Changed at left (s ∷ zs) (stmt_at at (made.Bump left up)) zs
  ran : {at : Place} {left : Expr} {xs : Tokens} → Changed at left xs (stmt_at at (made.Run left)) xs

-- expr, behind a left side that begins at the place, and the sign of an assignment
pub data Assigned : Place → Expr → ℕ → Tokens → Stmt → Tokens → Type 0 where
  of_right : {at : Place} {left right : Expr} {b : ℕ} {xs zs : Tokens} → Expression xs right zs → Assigned at left b xs (stmt_at at (made.Assign left b right)) zs

-- the sign n, behind what was read before it
abbrev pub Sealed : {A : Type 0} → ℕ → A → Reads A
Sealed n a [] u zs = ⊥
Sealed n a (s ∷ xs) u zs = IsSign n s × (u ≡ a) × (zs ≡ xs)

-- a part, and the sign n
abbrev pub Shut : {A : Type 0} → ℕ → Reads A → Reads A
Shut {A} n R xs t zs = (a : A) × (ys : Tokens) × R xs a ys × Sealed n a ys t zs

-- a part or none, and the sign n
abbrev pub MaybeShut : {A : Type 0} → ℕ → Reads A → Reads (Option A)
MaybeShut n R xs None zs = (p : Token) × (xs ≡ p ∷ zs) × IsSign n p
MaybeShut n R xs (Some t) zs = Shut n R xs t zs

-- it holds of what is there
abbrev pub Each : {A : Type 0} → (A → Type 0) → Option A → Type 0
Each P None = Unit {0}
Each P (Some a) = P a
