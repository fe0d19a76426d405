-- The grammar of expressions. `P xs t zs` says that the production P reads t from the front of the tokens xs, and
-- leaves zs. The place of a node is that of its first token, the parentheses around what it begins with among them.
use Rattle.std.specs.Prelude.{◌≡◌, ℕ, zero, suc, Bool, true, false, ◌==◌, ◌||◌, if◌then◌else◌, List, [], ◌∷◌, ◌++◌, Option, Some, None, IsTrue, ◌⊎◌}
use Rattle.jp_pred.specs.declared.ty.Ty.{Ty}
use Rattle.jp_pred.specs.declared.ty.Ty.TheVariants as ty
use Rattle.jp_ast.specs.declared.token.Place.{Place}
use Rattle.jp_ast.specs.declared.token.Token.{Token}
use Rattle.jp_ast.specs.declared.expr.Expr.{Expr}
use Rattle.jp_ast.specs.declared.sign.TheConstants as sign
use Rattle.jp_grammar.specs.declared.kind.Kind.{Kind}
use Rattle.jp_grammar.specs.declared.kind.Kind.TheVariants as k
use Rattle.jp_grammar.specs.Kinds.{Is, IsSign, IsName, IsNumber, IsText, Tokens, place_of}
use Rattle.jp_grammar.specs.Trees.{number_at, text_at, truth_at, null_at, this_at, unary_at, binary_at, instance_at, cond_at, cast_at, named_at, called_at, index_at, super_at, new_at, array_at}

-- how strongly a binary sign binds: 0 for `* / %`, 1 for `+ -`, 2 for the shifts, 3 for `< <= > >=`, 4 for `== !=`,
-- 5 for `&`, 6 for `^`, 7 for `|`, 8 for `&&`, 9 for `||`
abbrev pub strength : ℕ → Option ℕ
strength s =
    if s == sign.TIMES || s == sign.DIVIDE || s == sign.REMAINDER then Some 0
    else if s == sign.PLUS || s == sign.MINUS then Some 1
    else if s == sign.SHIFT_LEFT || s == sign.SHIFT_RIGHT || s == sign.UNSIGNED_SHIFT_RIGHT then Some 2
    else if s == sign.LESS || s == sign.AT_MOST || s == sign.GREATER || s == sign.AT_LEAST then Some 3
    else if s == sign.EQUAL || s == sign.NOT_EQUAL then Some 4
    else if s == sign.BIT_AND then Some 5
    else if s == sign.BIT_XOR then Some 6
    else if s == sign.BIT_OR then Some 7
    else if s == sign.AND then Some 8
    else if s == sign.OR then Some 9
    else None

-- the strength of `instanceof` is that of `<`
abbrev pub binds : Kind → Option ℕ
binds (k.Sign s) = strength s
binds k.InstanceOf = Some 3
binds _ = None

-- `-` and `+` stand in front of a unary
abbrev pub is_negation : ℕ → Bool
is_negation s = s == sign.MINUS || s == sign.PLUS

-- `!` and `~` make a plain of a unary
abbrev pub is_inversion : ℕ → Bool
is_inversion s = s == sign.NOT || s == sign.COMPLEMENT

-- elem = "int" | "boolean" | NAME
abbrev pub IsElement : Ty → Token → Type 0
IsElement ty.Int s = Is k.Int s
IsElement ty.Boolean s = Is k.Boolean s
IsElement (ty.Class class) s = IsName class s
IsElement _ s = ⊥

-- the tokens don't begin with `[`
abbrev pub NoBracket : Tokens → Type 0
NoBracket [] = Unit {0}
NoBracket (s ∷ xs) = IsSign sign.OPEN_BRACKET s → ⊥

mutual
  -- expr = or ["?" expr ":" expr]
  pub data Expression : Tokens → Expr → Tokens → Type 0 where
    expression : {xs ys zs : Tokens} {l t : Expr} → Level 10 xs l ys → Choices (place_of xs) l ys t zs → Expression xs t zs

  -- ["?" expr ":" expr], behind a test that begins at the place
  pub data Choices : Place → Expr → Tokens → Expr → Tokens → Type 0 where
    unconditional : {at : Place} {xs : Tokens} {t : Expr} → Choices at t xs t xs
    conditional : {at : Place} {s : Token} {xs ys zs : Tokens} {l a t : Expr} →
        IsSign sign.QUESTION s → Expression xs a ys → Alternative at l a ys t zs → Choices at l (s ∷ xs) t zs

  -- ":" expr, behind a test and its first part
  pub data Alternative : Place → Expr → Expr → Tokens → Expr → Tokens → Type 0 where
    alternative : {at : Place} {s : Token} {xs zs : Tokens} {l a b : Expr} →
        IsSign sign.COLON s → Expression xs b zs → Alternative at l a (s ∷ xs) (cond_at at l a b) zs

  -- The ten productions of binary signs, from the strongest on. Level 0 is unary, and Level (n + 1) is
  -- Level n { sign of strength n, Level n }, grouped to the left:
  -- prod = unary {("*" | "/" | "%") unary}                               is Level 1
  -- sum = prod {("+" | "-") prod}                                        is Level 2
  -- shift = sum {("<<" | ">>" | ">>>") sum}                              is Level 3
  -- rel = shift {("<" | "<=" | ">" | ">=") shift | "instanceof" NAME}    is Level 4
  -- eq = rel {("==" | "!=") rel}                                         is Level 5
  -- band = eq {"&" eq}                                                   is Level 6
  -- bxor = band {"^" band}                                               is Level 7
  -- bor = bxor {"|" bxor}                                                is Level 8
  -- and = bor {"&&" bor}                                                 is Level 9
  -- or = and {"||" and}                                                  is Level 10
  pub data Level : ℕ → Tokens → Expr → Tokens → Type 0 where
    strongest : {xs zs : Tokens} {t : Expr} → Unary xs t zs → Level zero xs t zs
    weaker : {n : ℕ} {xs ys zs : Tokens} {l t : Expr} → Level n xs l ys → Chain (place_of xs) n l ys t zs → Level (suc n) xs t zs

  -- { sign of strength n, Level n }, with `instanceof NAME` at the strength 3, behind a left side that begins at the place
  pub data Chain : Place → ℕ → Expr → Tokens → Expr → Tokens → Type 0 where
    chain_end : {at : Place} {n : ℕ} {xs : Tokens} {t : Expr} → Chain at n t xs t xs
    chain_sign : {at : Place} {n b : ℕ} {s : Token} {xs ys zs : Tokens} {l r t : Expr} →
        IsSign b s → strength b ≡ Some n → Level n xs r ys → Chain at n (binary_at at b l r) ys t zs → Chain at n l (s ∷ xs) t zs
    chain_instance : {at : Place} {n : ℕ} {s c : Token} {xs zs : Tokens} {l t : Expr} {class : List ℕ} →
        Is k.InstanceOf s → n ≡ 3 → IsName class c → Chain at n (instance_at at l class) xs t zs → Chain at n l (s ∷ c ∷ xs) t zs

  -- unary = ("-" | "+") unary | plain
  pub data Unary : Tokens → Expr → Tokens → Type 0 where
    negation : {b : ℕ} {s : Token} {xs zs : Tokens} {t : Expr} →
        IsSign b s → IsTrue (is_negation b) → Unary xs t zs → Unary (s ∷ xs) (unary_at s.place b t) zs
    unary_plain : {xs zs : Tokens} {t : Expr} → Plain xs t zs → Unary xs t zs

  -- plain = ("!" | "~") unary | "(" NAME ")" plain | postfix
  pub data Plain : Tokens → Expr → Tokens → Type 0 where
    inversion : {b : ℕ} {s : Token} {xs zs : Tokens} {t : Expr} →
        IsSign b s → IsTrue (is_inversion b) → Unary xs t zs → Plain (s ∷ xs) (unary_at s.place b t) zs
    cast : {s c p : Token} {xs zs : Tokens} {t : Expr} {class : List ℕ} →
        IsSign sign.OPEN_PAREN s → IsName class c → IsSign sign.CLOSE_PAREN p → Plain xs t zs → Plain (s ∷ c ∷ p ∷ xs) (cast_at s.place class t) zs
    plain_postfix : {xs zs : Tokens} {t : Expr} → Postfix xs t zs → Plain xs t zs

  -- postfix = primary { "." NAME ["(" args ")"] | "[" expr "]" }; a created array isn't directly followed by "["
  pub data Postfix : Tokens → Expr → Tokens → Type 0 where
    postfix : {xs ys zs : Tokens} {l t : Expr} → Primary xs l ys → Steps (place_of xs) l ys t zs → Postfix xs t zs
    postfix_array : {xs ys zs : Tokens} {l t : Expr} → NewArray xs l ys → NoBracket ys → Steps (place_of xs) l ys t zs → Postfix xs t zs

  -- { "." NAME ["(" args ")"] | "[" expr "]" }, behind what begins at the place
  pub data Steps : Place → Expr → Tokens → Expr → Tokens → Type 0 where
    steps_end : {at : Place} {xs : Tokens} {t : Expr} → Steps at t xs t xs
    member : {at : Place} {s : Token} {xs ys zs : Tokens} {l m t : Expr} →
        IsSign sign.DOT s → Named at (Some l) xs m ys → Steps at m ys t zs → Steps at l (s ∷ xs) t zs
    element : {at : Place} {s : Token} {xs ys zs : Tokens} {l i t : Expr} →
        IsSign sign.OPEN_BRACKET s → Bracketed xs i ys → Steps at (index_at at l i) ys t zs → Steps at l (s ∷ xs) t zs

  -- NAME ["(" args ")"], of an object or of none
  pub data Named : Place → Option Expr → Tokens → Expr → Tokens → Type 0 where
    uncalled : {at : Place} {o : Option Expr} {c : Token} {xs : Tokens} {name : List ℕ} →
        IsName name c → Named at o (c ∷ xs) (named_at at o name) xs
    called : {at : Place} {o : Option Expr} {c s : Token} {xs zs : Tokens} {name : List ℕ} {ts : List Expr} →
        IsName name c → IsSign sign.OPEN_PAREN s → Args xs ts zs → Named at o (c ∷ s ∷ xs) (called_at at o name ts) zs

  -- primary = NUMBER | TEXT | "true" | "false" | "null" | "this" | "(" expr ")" | NAME ["(" args ")"]
  --         | "super" "." NAME "(" args ")" | "new" NAME "(" args ")"
  pub data Primary : Tokens → Expr → Tokens → Type 0 where
    number : {s : Token} {xs : Tokens} {value : ℕ} {hex : Bool} → IsNumber value hex s → Primary (s ∷ xs) (number_at s.place value hex) xs
    text : {s : Token} {xs : Tokens} {bytes : List ℕ} → IsText bytes s → Primary (s ∷ xs) (text_at s.place bytes) xs
    truth : {s : Token} {xs : Tokens} → Is k.True s → Primary (s ∷ xs) (truth_at s.place true) xs
    falsehood : {s : Token} {xs : Tokens} → Is k.False s → Primary (s ∷ xs) (truth_at s.place false) xs
    nothing : {s : Token} {xs : Tokens} → Is k.Null s → Primary (s ∷ xs) (null_at s.place) xs
    receiver : {s : Token} {xs : Tokens} → Is k.This s → Primary (s ∷ xs) (this_at s.place) xs
    parenthesis : {s : Token} {xs zs : Tokens} {t : Expr} → IsSign sign.OPEN_PAREN s → Closed xs t zs → Primary (s ∷ xs) t zs
    name : {xs zs : Tokens} {t : Expr} → Named (place_of xs) None xs t zs → Primary xs t zs
    super_call : {s d c o : Token} {xs zs : Tokens} {word : List ℕ} {ts : List Expr} →
        Is k.Super s → IsSign sign.DOT d → IsName word c → IsSign sign.OPEN_PAREN o → Args xs ts zs → Primary (s ∷ d ∷ c ∷ o ∷ xs) (super_at s.place word ts) zs
    new_object : {s c o : Token} {xs zs : Tokens} {class : List ℕ} {ts : List Expr} →
        Is k.New s → IsName class c → IsSign sign.OPEN_PAREN o → Args xs ts zs → Primary (s ∷ c ∷ o ∷ xs) (new_at s.place class ts) zs

  -- "new" elem "[" expr "]"
  pub data NewArray : Tokens → Expr → Tokens → Type 0 where
    new_array : {s c o : Token} {xs zs : Tokens} {elem : Ty} {size : Expr} →
        Is k.New s → IsElement elem c → IsSign sign.OPEN_BRACKET o → Bracketed xs size zs → NewArray (s ∷ c ∷ o ∷ xs) (array_at s.place elem size) zs

  -- expr ")"
  pub data Closed : Tokens → Expr → Tokens → Type 0 where
    closed : {p : Token} {xs zs : Tokens} {t : Expr} → Expression xs t (p ∷ zs) → IsSign sign.CLOSE_PAREN p → Closed xs t zs

  -- expr "]"
  pub data Bracketed : Tokens → Expr → Tokens → Type 0 where
    bracketed : {p : Token} {xs zs : Tokens} {t : Expr} → Expression xs t (p ∷ zs) → IsSign sign.CLOSE_BRACKET p → Bracketed xs t zs

  -- args ")", where args = [expr {"," expr}]
  pub data Args : Tokens → List Expr → Tokens → Type 0 where
    no_args : {p : Token} {zs : Tokens} → IsSign sign.CLOSE_PAREN p → Args (p ∷ zs) [] zs
    some_args : {xs ys zs : Tokens} {t : Expr} {ts : List Expr} → Expression xs t ys → MoreArgs (t ∷ []) ys ts zs → Args xs ts zs

  -- {"," expr} ")", behind some arguments
  pub data MoreArgs : List Expr → Tokens → List Expr → Tokens → Type 0 where
    last_arg : {p : Token} {zs : Tokens} {ts : List Expr} → IsSign sign.CLOSE_PAREN p → MoreArgs ts (p ∷ zs) ts zs
    next_arg : {s : Token} {xs ys zs : Tokens} {t : Expr} {ts us : List Expr} →
        IsSign sign.COMMA s → Expression xs t ys → MoreArgs (ts ++ t ∷ []) ys us zs → MoreArgs ts (s ∷ xs) us zs
