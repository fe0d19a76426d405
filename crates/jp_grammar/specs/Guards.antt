-- The grammar of guards. `P xs t zs` says that the production P reads t from the front of the tokens xs, and leaves zs.
use Rattle.std.specs.Prelude.{◌≡◌, ℕ, zero, suc, Bool, true, false, ◌==◌, ◌||◌, List, [], ◌∷◌, ◌++◌, Option, Some, None, IsTrue, ◌⊎◌}
use Rattle.jp_ast.specs.declared.token.Place.{Place}
use Rattle.jp_ast.specs.declared.token.Token.{Token}
use Rattle.jp_ast.specs.declared.token.Lexeme.TheVariants as lexeme
use Rattle.jp_ast.specs.declared.guard.PathText.{PathText}
use Rattle.jp_ast.specs.declared.guard.Summand.{Summand}
use Rattle.jp_ast.specs.declared.guard.GuardExpr.{GuardExpr}
use Rattle.jp_ast.specs.declared.guard.GuardKind.TheVariants as made
use Rattle.jp_ast.specs.declared.sign.TheConstants as sign
use Rattle.jp_grammar.specs.declared.kind.Kind.TheVariants as k
use Rattle.jp_grammar.specs.Kinds.{Is, IsSign, IsName, IsNumber, Tokens, place_of}

-- the path begins at the token: `this`, or a name
abbrev pub IsRoot : List ℕ → Token → Type 0
IsRoot word s = (s.lexeme ≡ lexeme.Word word) × (Is k.This s ⊎ Is k.Name s)

-- `root`
abbrev pub root_at : Place → List ℕ → PathText
root_at at word = record { place = at; root = word; steps = [] }

-- `path.name`
abbrev pub step_to : PathText → List ℕ → PathText
step_to p name = record { place = p.place; root = p.root; steps = p.steps ++ name ∷ [] }

-- `number`, `path` or `number * path`, with a sign in front or not
abbrev pub summand_at : Place → Bool → Option (ℕ × Bool) → Option PathText → Summand
summand_at at negative factor path = record { place = at; negative = negative; factor = factor; path = path }

-- `true` or `false`
abbrev pub truth_guard : Place → Bool → GuardExpr
truth_guard at value = record { place = at; kind = made.Truth value }

-- `!right`
abbrev pub not_at : Place → GuardExpr → GuardExpr
not_at at right = record { place = at; kind = made.Not right }

-- `left && right` at the strength 0, `left || right` at the strength 1
abbrev pub joined_at : Place → ℕ → GuardExpr → GuardExpr → GuardExpr
joined_at at zero left right = record { place = at; kind = made.And left right }
joined_at at (suc n) left right = record { place = at; kind = made.Or left right }

-- the sign of a strength: `&&` binds more strongly than `||`
abbrev pub IsJoin : ℕ → Token → Type 0
IsJoin zero s = IsSign sign.AND s
IsJoin (suc n) s = (n ≡ 0) × IsSign sign.OR s

-- `<`, `<=`, `>`, `>=`, `==` or `!=`
abbrev pub is_comparison : ℕ → Bool
is_comparison s = s == sign.LESS || s == sign.AT_MOST || s == sign.GREATER || s == sign.AT_LEAST || s == sign.EQUAL || s == sign.NOT_EQUAL

-- `==`, or `!=` where it isn't equal
abbrev pub IsEquality : Bool → Token → Type 0
IsEquality true s = IsSign sign.EQUAL s
IsEquality false s = IsSign sign.NOT_EQUAL s

-- `-`, or `+` where it isn't negative
abbrev pub IsSummandSign : Bool → Token → Type 0
IsSummandSign true s = IsSign sign.MINUS s
IsSummandSign false s = IsSign sign.PLUS s

-- path = ("this" | NAME) {"." NAME}
mutual
  pub data Path : Tokens → PathText → Tokens → Type 0 where
    path : {s : Token} {xs zs : Tokens} {word : List ℕ} {p : PathText} → IsRoot word s → PathSteps (root_at s.place word) xs p zs → Path (s ∷ xs) p zs

  -- {"." NAME}, behind the beginning of a path
  pub data PathSteps : PathText → Tokens → PathText → Tokens → Type 0 where
    path_end : {p : PathText} {xs : Tokens} → PathSteps p xs p xs
    path_step : {s c : Token} {xs zs : Tokens} {p q : PathText} {name : List ℕ} →
        IsSign sign.DOT s → IsName name c → PathSteps (step_to p name) xs q zs → PathSteps p (s ∷ c ∷ xs) q zs

-- term = NUMBER | path | NUMBER "*" path | path "*" NUMBER, of a summand that begins at the place
pub data Term : Place → Bool → Tokens → Summand → Tokens → Type 0 where
  constant : {at : Place} {negative hex : Bool} {value : ℕ} {s : Token} {xs : Tokens} →
      IsNumber value hex s → Term at negative (s ∷ xs) (summand_at at negative (Some (value, hex)) None) xs
  variable : {at : Place} {negative : Bool} {xs zs : Tokens} {p : PathText} →
      Path xs p zs → Term at negative xs (summand_at at negative None (Some p)) zs
  factor_first : {at : Place} {negative hex : Bool} {value : ℕ} {s m : Token} {xs zs : Tokens} {p : PathText} →
      IsNumber value hex s → IsSign sign.TIMES m → Path xs p zs → Term at negative (s ∷ m ∷ xs) (summand_at at negative (Some (value, hex)) (Some p)) zs
  factor_last : {at : Place} {negative hex : Bool} {value : ℕ} {s m : Token} {xs zs : Tokens} {p : PathText} →
      Path xs p (m ∷ s ∷ zs) → IsSign sign.TIMES m → IsNumber value hex s → Term at negative xs (summand_at at negative (Some (value, hex)) (Some p)) zs

mutual
  -- lin = ["-"] term {("+" | "-") term}
  pub data Lin : Tokens → List Summand → Tokens → Type 0 where
    lin_negative : {s : Token} {xs ys zs : Tokens} {a : Summand} {sum : List Summand} →
        IsSign sign.MINUS s → Term s.place true xs a ys → Terms (a ∷ []) ys sum zs → Lin (s ∷ xs) sum zs
    lin : {xs ys zs : Tokens} {a : Summand} {sum : List Summand} → Term (place_of xs) false xs a ys → Terms (a ∷ []) ys sum zs → Lin xs sum zs

  -- {("+" | "-") term}, behind some summands; a summand's own sign is its first token
  pub data Terms : List Summand → Tokens → List Summand → Tokens → Type 0 where
    terms_end : {sum : List Summand} {xs : Tokens} → Terms sum xs sum xs
    terms_more : {s : Token} {negative : Bool} {xs ys zs : Tokens} {a : Summand} {begun sum : List Summand} →
        IsSummandSign negative s → Term s.place negative xs a ys → Terms (begun ++ a ∷ []) ys sum zs → Terms begun (s ∷ xs) sum zs

-- atom = "true" | "false" | path "@" NAME ["as" NAME] | path "as" NAME | path ("==" | "!=") "null"
--      | lin ("==" | "!=" | "<" | "<=" | ">" | ">=") lin | path
pub data Atom : Tokens → GuardExpr → Tokens → Type 0 where
  truth : {s : Token} {xs : Tokens} → Is k.True s → Atom (s ∷ xs) (truth_guard s.place true) xs
  falsehood : {s : Token} {xs : Tokens} → Is k.False s → Atom (s ∷ xs) (truth_guard s.place false) xs
  class_test : {a c : Token} {xs zs : Tokens} {p : PathText} {class : List ℕ} →
      Path xs p (a ∷ c ∷ zs) → IsSign sign.AT a → IsName class c → Atom xs (record { place = place_of xs; kind = made.Is p class None }) zs
  class_alias : {a c b d : Token} {xs zs : Tokens} {p : PathText} {class name : List ℕ} →
      Path xs p (a ∷ c ∷ b ∷ d ∷ zs) → IsSign sign.AT a → IsName class c → Is k.As b → IsName name d →
      Atom xs (record { place = place_of xs; kind = made.Is p class (Some name) }) zs
  alias : {b d : Token} {xs zs : Tokens} {p : PathText} {name : List ℕ} →
      Path xs p (b ∷ d ∷ zs) → Is k.As b → IsName name d → Atom xs (record { place = place_of xs; kind = made.Alias p name }) zs
  null_test : {e n : Token} {equal : Bool} {xs zs : Tokens} {p : PathText} →
      Path xs p (e ∷ n ∷ zs) → IsEquality equal e → Is k.Null n → Atom xs (record { place = place_of xs; kind = made.NullTest p equal }) zs
  comparison : {s : Token} {b : ℕ} {xs ys zs : Tokens} {left right : List Summand} →
      Lin xs left (s ∷ ys) → IsSign b s → IsTrue (is_comparison b) → Lin ys right zs →
      Atom xs (record { place = place_of xs; kind = made.Compare left b right }) zs
  flag : {xs zs : Tokens} {p : PathText} → Path xs p zs → Atom xs (record { place = place_of xs; kind = made.Flag p }) zs

mutual
  -- Level 0 is gun, and Level (n + 1) is Level n { sign of strength n, Level n }, grouped to the left:
  -- gand = gun {"&&" gun}       is Level 1
  -- guard = gand {"||" gand}    is Level 2
  pub data Level : ℕ → Tokens → GuardExpr → Tokens → Type 0 where
    strongest : {xs zs : Tokens} {t : GuardExpr} → Gun xs t zs → Level zero xs t zs
    weaker : {n : ℕ} {xs ys zs : Tokens} {l t : GuardExpr} → Level n xs l ys → Chain (place_of xs) n l ys t zs → Level (suc n) xs t zs

  -- { sign of strength n, Level n }, behind a left side that begins at the place
  pub data Chain : Place → ℕ → GuardExpr → Tokens → GuardExpr → Tokens → Type 0 where
    chain_end : {at : Place} {n : ℕ} {xs : Tokens} {t : GuardExpr} → Chain at n t xs t xs
    chain_sign : {at : Place} {n : ℕ} {s : Token} {xs ys zs : Tokens} {l r t : GuardExpr} →
        IsJoin n s → Level n xs r ys → Chain at n (joined_at at n l r) ys t zs → Chain at n l (s ∷ xs) t zs

  -- gun = "!" gun | "(" guard ")" | atom
  pub data Gun : Tokens → GuardExpr → Tokens → Type 0 where
    opposite : {s : Token} {xs zs : Tokens} {t : GuardExpr} → IsSign sign.NOT s → Gun xs t zs → Gun (s ∷ xs) (not_at s.place t) zs
    parenthesis : {s : Token} {xs zs : Tokens} {t : GuardExpr} → IsSign sign.OPEN_PAREN s → Closed xs t zs → Gun (s ∷ xs) t zs
    atom : {xs zs : Tokens} {t : GuardExpr} → Atom xs t zs → Gun xs t zs

  -- guard ")"
  pub data Closed : Tokens → GuardExpr → Tokens → Type 0 where
    closed : {p : Token} {xs zs : Tokens} {t : GuardExpr} → Level 2 xs t (p ∷ zs) → IsSign sign.CLOSE_PAREN p → Closed xs t zs

-- a whole guard
abbrev pub Guard : Tokens → GuardExpr → Tokens → Type 0
Guard = Level 2
