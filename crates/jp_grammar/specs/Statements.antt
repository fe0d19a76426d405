-- The grammar of statements. `P xs t zs` says that the production P reads t from the front of the tokens xs, and leaves zs.
use Rattle.std.specs.Prelude.{◌≡◌, ℕ, Bool, true, false, ◌==◌, ◌||◌, List, [], ◌∷◌, ◌++◌, Option, Some, None, IsTrue}
use Rattle.jp_pred.specs.declared.ty.Ty.{Ty}
use Rattle.jp_pred.specs.declared.ty.Ty.TheVariants as ty
use Rattle.jp_ast.specs.declared.token.Place.{Place}
use Rattle.jp_ast.specs.declared.token.Token.{Token}
use Rattle.jp_ast.specs.declared.expr.Expr.{Expr}
use Rattle.jp_ast.specs.declared.stmt.Stmt.{Stmt}
use Rattle.jp_ast.specs.declared.stmt.StmtKind.TheVariants as made
use Rattle.jp_ast.specs.declared.sign.TheConstants as sign
use Rattle.jp_grammar.specs.declared.kind.Kind.TheVariants as k
use Rattle.jp_grammar.specs.Kinds.{Is, IsSign, IsName, Tokens, place_of}
use Rattle.jp_grammar.specs.Expressions.{Expression, Postfix, IsElement}

-- the array type with elements of this type
abbrev pub array_of : Ty → Ty
array_of ty.Void = ty.Void
array_of ty.Int = ty.IntArray
array_of ty.Boolean = ty.BooleanArray
array_of (ty.Class class) = ty.ClassArray class
array_of ty.IntArray = ty.IntArray
array_of ty.BooleanArray = ty.BooleanArray
array_of (ty.ClassArray class) = ty.ClassArray class

-- type = elem ["[" "]"]
pub data OneType : Tokens → Ty → Tokens → Type 0 where
  element_type : {s : Token} {xs : Tokens} {elem : Ty} → IsElement elem s → OneType (s ∷ xs) elem xs
  array_type : {s o p : Token} {xs : Tokens} (elem : Ty) →
      IsElement elem s → IsSign sign.OPEN_BRACKET o → IsSign sign.CLOSE_BRACKET p → OneType (s ∷ o ∷ p ∷ xs) (array_of elem) xs

-- result = "void" | type
pub data ResultType : Tokens → Ty → Tokens → Type 0 where
  no_result : {s : Token} {xs : Tokens} → Is k.Void s → ResultType (s ∷ xs) ty.Void xs
  some_result : {xs zs : Tokens} {t : Ty} → OneType xs t zs → ResultType xs t zs

-- `=`, `+=` or `-=`
abbrev pub is_assignment : ℕ → Bool
is_assignment s = s == sign.ASSIGN || s == sign.ADD_ASSIGN || s == sign.SUBTRACT_ASSIGN

-- `++`, or `--` where it isn't up
abbrev pub IsBump : Bool → Token → Type 0
IsBump true s = IsSign sign.INCREMENT s
IsBump false s = IsSign sign.DECREMENT s

-- change = postfix [ ("=" | "+=" | "-=") expr | "++" | "--" ]
pub data Change : Tokens → Stmt → Tokens → Type 0 where
  assign : {s : Token} {b : ℕ} {xs ys zs : Tokens} {left right : Expr} →
      Postfix xs left (s ∷ ys) → IsSign b s → IsTrue (is_assignment b) → Expression ys right zs →
      Change xs (record { place = place_of xs; kind = made.Assign left b right }) zs
  bump : {s : Token} {up : Bool} {xs zs : Tokens} {left : Expr} →
      Postfix xs left (s ∷ zs) → IsBump up s → Change xs (record { place = place_of xs; kind = made.Bump left up }) zs
  run : {xs zs : Tokens} {e : Expr} → Postfix xs e zs → Change xs (record { place = place_of xs; kind = made.Run e }) zs

-- type NAME "=" expr
pub data Declared : Tokens → Stmt → Tokens → Type 0 where
  declared : {c e : Token} {name : List ℕ} {xs ys zs : Tokens} {t : Ty} {value : Expr} →
      OneType xs t (c ∷ e ∷ ys) → IsName name c → IsSign sign.ASSIGN e → Expression ys value zs →
      Declared xs (record { place = place_of xs; kind = made.Local t name (Some value) }) zs

-- init = type NAME "=" expr | change
pub data Init : Tokens → Stmt → Tokens → Type 0 where
  init_local : {xs zs : Tokens} {t : Stmt} → Declared xs t zs → Init xs t zs
  init_change : {xs zs : Tokens} {t : Stmt} → Change xs t zs → Init xs t zs

-- [init] ";"
pub data MaybeInit : Tokens → Option Stmt → Tokens → Type 0 where
  no_init : {p : Token} {xs : Tokens} → IsSign sign.SEMICOLON p → MaybeInit (p ∷ xs) None xs
  some_init : {p : Token} {xs zs : Tokens} {t : Stmt} → Init xs t (p ∷ zs) → IsSign sign.SEMICOLON p → MaybeInit xs (Some t) zs

-- [expr] ";"
pub data MaybeExpr : Tokens → Option Expr → Tokens → Type 0 where
  no_expr : {p : Token} {xs : Tokens} → IsSign sign.SEMICOLON p → MaybeExpr (p ∷ xs) None xs
  some_expr : {p : Token} {xs zs : Tokens} {t : Expr} → Expression xs t (p ∷ zs) → IsSign sign.SEMICOLON p → MaybeExpr xs (Some t) zs

-- [change] ")"
pub data MaybeChange : Tokens → Option Stmt → Tokens → Type 0 where
  no_change : {p : Token} {xs : Tokens} → IsSign sign.CLOSE_PAREN p → MaybeChange (p ∷ xs) None xs
  some_change : {p : Token} {xs zs : Tokens} {t : Stmt} → Change xs t (p ∷ zs) → IsSign sign.CLOSE_PAREN p → MaybeChange xs (Some t) zs

-- "(" expr ")"
pub data Test : Tokens → Expr → Tokens → Type 0 where
  test : {o p : Token} {xs zs : Tokens} {t : Expr} → IsSign sign.OPEN_PAREN o → Expression xs t (p ∷ zs) → IsSign sign.CLOSE_PAREN p → Test (o ∷ xs) t zs

mutual
  -- stmt = block | ";" | type NAME ["=" expr] ";" | "if" "(" expr ")" stmt ["else" stmt] | "while" "(" expr ")" stmt
  --      | "for" "(" [init] ";" [expr] ";" [change] ")" stmt | "break" ";" | "continue" ";" | "return" [expr] ";" | change ";"
  -- `short` says whether the statement ends in an `if` that has no `else`: an `else` belongs to the nearest `if`.
  pub data Statement : Tokens → Stmt → Bool → Tokens → Type 0 where
    block : {s : Token} {xs zs : Tokens} {ts : List Stmt} → IsSign sign.OPEN_BRACE s → Block [] xs ts zs →
        Statement (s ∷ xs) (record { place = s.place; kind = made.Block ts }) false zs
    empty : {s : Token} {xs : Tokens} → IsSign sign.SEMICOLON s → Statement (s ∷ xs) (record { place = s.place; kind = made.Empty }) false xs
    local : {c p : Token} {name : List ℕ} {xs zs : Tokens} {t : Ty} → OneType xs t (c ∷ p ∷ zs) → IsName name c → IsSign sign.SEMICOLON p →
        Statement xs (record { place = place_of xs; kind = made.Local t name None }) false zs
    local_value : {p : Token} {xs zs : Tokens} {t : Stmt} → Declared xs t (p ∷ zs) → IsSign sign.SEMICOLON p → Statement xs t false zs
    when_true : {s : Token} {xs ys ws zs : Tokens} {e : Expr} {a t : Stmt} {inner short : Bool} →
        Is k.If s → Test xs e ys → Statement ys a inner ws → Else s.place e a inner ws t short zs → Statement (s ∷ xs) t short zs
    while_true : {s : Token} {xs ys zs : Tokens} {e : Expr} {a : Stmt} {short : Bool} →
        Is k.While s → Test xs e ys → Statement ys a short zs →
        Statement (s ∷ xs) (record { place = s.place; kind = made.While e a }) short zs
    for_each : {s o : Token} {xs ys ws vs zs : Tokens} {i c : Option Stmt} {e : Option Expr} {a : Stmt} {short : Bool} →
        Is k.For s → IsSign sign.OPEN_PAREN o → MaybeInit xs i ys → MaybeExpr ys e ws → MaybeChange ws c vs → Statement vs a short zs →
        Statement (s ∷ o ∷ xs) (record { place = s.place; kind = made.For i e c a }) short zs
    break_off : {s p : Token} {xs : Tokens} → Is k.Break s → IsSign sign.SEMICOLON p →
        Statement (s ∷ p ∷ xs) (record { place = s.place; kind = made.Break }) false xs
    continue_on : {s p : Token} {xs : Tokens} → Is k.Continue s → IsSign sign.SEMICOLON p →
        Statement (s ∷ p ∷ xs) (record { place = s.place; kind = made.Continue }) false xs
    return_from : {s : Token} {xs zs : Tokens} {e : Option Expr} → Is k.Return s → MaybeExpr xs e zs →
        Statement (s ∷ xs) (record { place = s.place; kind = made.Return e }) false zs
    change : {p : Token} {xs zs : Tokens} {t : Stmt} → Change xs t (p ∷ zs) → IsSign sign.SEMICOLON p → Statement xs t false zs

  -- ["else" stmt], behind a test and a first branch
  pub data Else : Place → Expr → Stmt → Bool → Tokens → Stmt → Bool → Tokens → Type 0 where
    no_else : {at : Place} {e : Expr} {a : Stmt} {inner : Bool} {xs : Tokens} →
        Else at e a inner xs (record { place = at; kind = made.If e a None }) true xs
    some_else : {at : Place} {s : Token} {e : Expr} {a b : Stmt} {short : Bool} {xs zs : Tokens} →
        Is k.Else s → Statement xs b short zs → Else at e a false (s ∷ xs) (record { place = at; kind = made.If e a (Some b) }) short zs

  -- {stmt} "}", behind some statements
  pub data Block : List Stmt → Tokens → List Stmt → Tokens → Type 0 where
    block_end : {p : Token} {xs : Tokens} {ts : List Stmt} → IsSign sign.CLOSE_BRACE p → Block ts (p ∷ xs) ts xs
    block_more : {xs ys zs : Tokens} {ts us : List Stmt} {t : Stmt} {short : Bool} →
        Statement xs t short ys → Block (ts ++ t ∷ []) ys us zs → Block ts xs us zs
