-- What a function that reads a part of a text owes: the part and nothing else, or the first token that goes on to none.
use Rattle.std.specs.Prelude.{◌≡◌, ℕ, ◌≤◌, Bool, true, false, not, List, [], ◌∷◌, ◌++◌, length, Result, Ok, Err, IsTrue, ◌⊎◌}
use Rattle.std.specs.Borrow.{Bor}
use Rattle.jp_ast.specs.declared.token.Token.{Token}
use Rattle.jp_ast.specs.declared.token.Lexeme.TheVariants as lexeme
use Rattle.jp_grammar.specs.declared.kind.Kind.{Kind}
use Rattle.jp_grammar.specs.declared.kind.Kind.TheVariants as k
use Rattle.jp_grammar.specs.declared.fault.ParseFault.{ParseFault}
use Rattle.jp_grammar.specs.declared.fault.ParseFault.TheVariants.{Unexpected, Outside, TooDeep, OutOfMemory}
use Rattle.jp_grammar.specs.Kinds.{Tokens, kind_of_token, IsSign}

-- `R xs t zs`: t is read from the front of xs, and zs is left
abbrev pub Reads : Type 0 → Type 1
Reads T = Tokens → T → Tokens → Type 0

-- the tokens end in the token End, and in no other place
abbrev pub IsText : Tokens → Type 0
IsText [] = ⊥
IsText (s ∷ []) = kind_of_token s ≡ k.End
IsText (s ∷ x ∷ xs) = (kind_of_token s ≡ k.End → ⊥) × IsText (x ∷ xs)

-- the list begins with a token that may stand behind the part
abbrev pub Ends : (Token → Bool) → Tokens → Type 0
Ends ends [] = ⊥
Ends ends (s ∷ xs) = IsTrue (ends s)

-- what holds of everything
abbrev pub Any : {T : Type 0} → T → Type 0
Any t = Unit {0}

-- With this front and this next token nothing is read that P holds of.
abbrev pub Never : {T : Type 0} → Reads T → (T → Token → Bool) → (T → Type 0) → Tokens → Token → Type 0
Never {T} R ends P front next = (more zs : Tokens) (t : T) → R (front ++ next ∷ more) t zs → Ends (ends t) zs → P t → ⊥

-- This front can be completed to something that P holds of, whatever is to follow.
abbrev pub Viable : {T : Type 0} → Reads T → (T → Token → Bool) → (Token → Bool) → (T → Type 0) → Tokens → Type 0
Viable {T} R ends follow P front = (zs : Tokens) → Ends follow zs → (more : Tokens) × (t : T) × R (front ++ (more ++ zs)) t zs × Ends (ends t) zs × P t

-- ys begins as zs does
abbrev pub SameHead : Tokens → Tokens → Type 0
SameHead [] ys = ⊥
SameHead (s ∷ zs) [] = ⊥
SameHead (s ∷ zs) (s' ∷ ys) = s' ≡ s

-- ys begins as zs does, or with a token that may stand behind
abbrev pub Follows : (Token → Bool) → Tokens → Tokens → Type 0
Follows ends zs ys = Ends ends ys ⊎ SameHead zs ys

-- t was read, and nothing else can be, whatever follows
pub record Found {T : Type 0} (R : Reads T) (ends : T → Token → Bool) (xs : Tokens) (t : T) (zs : Tokens) : Type 0 where
  pub front : Tokens
  pub split : xs ≡ front ++ zs
  pub reads : (ys : Tokens) → Follows (ends t) zs ys → R (front ++ ys) t ys
  pub only : (ys zs' : Tokens) (t' : T) → Follows (ends t) zs ys → R (front ++ ys) t' zs' → Ends (ends t') zs' → (t' ≡ t) × (zs' ≡ ys)

-- what a fault says of the token at which it stands
abbrev pub Tells : ParseFault → Token → Type 0
Tells (Unexpected place) next = (place ≡ next.place) × (kind_of_token next ≡ k.Outside → ⊥)
Tells (Outside place word) next = (place ≡ next.place) × (kind_of_token next ≡ k.Outside) × (next.lexeme ≡ lexeme.Word word)
Tells (TooDeep place) next = place ≡ next.place
Tells OutOfMemory next = ⊥

-- the fault says that a tree is too deep
abbrev pub is_deep : ParseFault → Bool
is_deep (TooDeep place) = true
is_deep _ = false

-- The fault is at the first token with which nothing is read. Where it is deep, something that is too deep would be.
pub record Fault {T : Type 0} (R : Reads T) (ends : T → Token → Bool) (follow : Token → Bool) (P : T → Type 0) (e : ParseFault) (xs : Tokens) : Type 0 where
  pub front : Tokens
  pub next : Token
  pub more : Tokens
  pub split : xs ≡ front ++ next ∷ more
  pub tells : Tells e next
  pub viable : Viable R ends follow P front
  pub never : Never R ends P front next
  pub never_deeper : IsTrue (not (is_deep e)) → Never R ends Any front next
  pub deeper : IsTrue (is_deep e) → Viable R ends follow Any (front ++ next ∷ [])

-- want of memory, or the fault
abbrev pub Fails : {T : Type 0} → Reads T → (T → Token → Bool) → (Token → Bool) → (T → Type 0) → Tokens → ParseFault → Type 0
Fails R ends follow P xs e = (e ≡ OutOfMemory) ⊎ Fault R ends follow P e xs

-- the token is refused with this fault, or memory is wanting
abbrev pub Refused : Token → ParseFault → Type 0
Refused next e = (e ≡ OutOfMemory) ⊎ (Tells e next × IsTrue (not (is_deep e)))

-- the token is no name, and is refused; or memory is wanting
abbrev pub RefusedName : Token → ParseFault → Type 0
RefusedName next e = (e ≡ OutOfMemory) ⊎ ((kind_of_token next ≡ k.Name → ⊥) × Refused next e)

-- want of memory, or the fault, where trees are at most so deep
abbrev pub FailsWithin : {T : Type 0} → Reads T → (T → ℕ) → (Token → Bool) → ℕ → Tokens → ParseFault → Type 0
FailsWithin R depth ends most xs e = Fails R (λ _. ends) ends (λ t. depth t ≤ most) xs e

-- the tree with its depth and what is left, where trees are at most so deep; else the fault
abbrev pub Gives : {T : Type 0} → Reads T → (T → ℕ) → (Token → Bool) → ℕ → Tokens → Result (T × ℕ × Bor Tokens) ParseFault → Type 0
Gives R depth ends most xs (Ok x) = Found R (λ _. ends) xs x.0 x.2.now × (x.1 ≡ depth x.0) × (x.1 ≤ most)
Gives R depth ends most xs (Err e) = FailsWithin R depth ends most xs e

-- the same where no tree but only the tokens behind it is given
abbrev pub GivesRest : {T : Type 0} → Reads T → (Token → Bool) → (T → Type 0) → Tokens → T → Result (Bor Tokens) ParseFault → Type 0
GivesRest R ends P xs t (Ok rest) = Found R (λ _. ends) xs t rest.now
GivesRest R ends P xs t (Err e) = Fails R (λ _. ends) ends P xs e

-- what is left is a text, and no longer than what was there
abbrev pub IsRest : Tokens → Tokens → Type 0
IsRest xs zs = IsText zs × (length zs ≤ length xs)

-- the list begins with a token of a kind that passes the test
abbrev pub Begins : (Kind → Bool) → Tokens → Type 0
Begins test [] = ⊥
Begins test (s ∷ xs) = IsTrue (test (kind_of_token s))

-- the tokens begin with this sign, and go on with the rest
pub record Takes (sign : ℕ) (xs zs : Tokens) : Type 0 where
  pub first : Token
  pub split : xs ≡ first ∷ zs
  pub sign_is : IsSign sign first

-- the tokens begin with something else than this sign, and it is refused
pub record Lacks (sign : ℕ) (xs : Tokens) (e : ParseFault) : Type 0 where
  pub first : Token
  pub rest : Tokens
  pub split : xs ≡ first ∷ rest
  pub other : IsSign sign first → ⊥
  pub refused : Refused first e
