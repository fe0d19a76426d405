-- Declarations of local variables, by what is read of them, and how the first tokens tell them from changes.
use Rattle.std.specs.Prelude.{◌≡◌, ℕ, Bool, true, false, ◌&&◌, ◌||◌, List, [], ◌∷◌, Some, None, ◌⊎◌}
use Rattle.jp_pred.specs.declared.ty.Ty.{Ty}
use Rattle.jp_ast.specs.declared.token.Place.{Place}
use Rattle.jp_ast.specs.declared.token.Token.{Token}
use Rattle.jp_ast.specs.declared.expr.Expr.{Expr}
use Rattle.jp_ast.specs.declared.stmt.Stmt.{Stmt}
use Rattle.jp_ast.specs.declared.stmt.StmtKind.TheVariants as made
use Rattle.jp_ast.specs.declared.sign.TheConstants as sign
use Rattle.jp_grammar.specs.declared.kind.Kind.{Kind}
use Rattle.jp_grammar.specs.declared.kind.Kind.TheVariants as k
use Rattle.jp_grammar.specs.Kinds.{IsSign, IsName, Tokens, place_of, kind_of_token, is_sign_of}
use Rattle.jp_grammar.specs.Expressions.{Expression}
use Rattle.jp_grammar.specs.Statements.{OneType, Change}
use Rattle.jp_grammar.specs.Reading.{Reads}
use Rattle.jp_parse_stmt.specs.Parts.{Shut, stmt_at}

abbrev pub is_name : Kind → Bool
is_name k.Name = true
is_name _ = false

-- "]"
abbrev pub closes : Tokens → Bool
closes [] = false
closes (s ∷ xs) = is_sign_of sign.CLOSE_BRACKET s

-- NAME, or "[" "]"
abbrev pub names_local : Tokens → Bool
names_local [] = false
names_local (s ∷ xs) = is_name (kind_of_token s) || (is_sign_of sign.OPEN_BRACKET s && closes xs)

-- a token of the kind and these tokens begin the declaration of a local variable
abbrev pub local_kind : Kind → Tokens → Bool
local_kind k.Int xs = true
local_kind k.Boolean xs = true
local_kind k.Name xs = names_local xs
local_kind _ xs = false

-- the declaration of a local variable begins there: a primitive type, or NAME NAME, or NAME "[" "]"
abbrev pub begins_local : Tokens → Bool
begins_local [] = false
begins_local (s ∷ xs) = local_kind (kind_of_token s) xs

-- NAME, behind its type
pub data NameOf : Ty → Tokens → Ty × List ℕ → Tokens → Type 0 where
  name_of : {t : Ty} {c : Token} {name : List ℕ} {zs : Tokens} → IsName name c → NameOf t (c ∷ zs) (t, name) zs

-- type NAME
abbrev pub Head : Reads (Ty × List ℕ)
Head xs x zs = (t : Ty) × (ys : Tokens) × OneType xs t ys × NameOf t ys x zs

-- "=" expr ";", behind a type and a name
pub data Valued : Place → Ty × List ℕ → Tokens → Stmt → Tokens → Type 0 where
  valued : {at : Place} {x : Ty × List ℕ} {s : Token} {value : Expr} {xs zs : Tokens} →
      IsSign sign.ASSIGN s → Shut sign.SEMICOLON Expression xs value zs → Valued at x (s ∷ xs) (stmt_at at (made.Local x.0 x.1 (Some value))) zs

-- ["=" expr] ";", behind a type and a name
pub data Declares : Place → Ty × List ℕ → Tokens → Stmt → Tokens → Type 0 where
  no_value : {at : Place} {x : Ty × List ℕ} {p : Token} {zs : Tokens} → IsSign sign.SEMICOLON p → Declares at x (p ∷ zs) (stmt_at at (made.Local x.0 x.1 None)) zs
  some_value : {at : Place} {x : Ty × List ℕ} {t : Stmt} {xs zs : Tokens} → Valued at x xs t zs → Declares at x xs t zs

-- type NAME "=" expr ";"
abbrev pub ValuedLine : Reads Stmt
ValuedLine xs t zs = (x : Place × (Ty × List ℕ)) × (ys : Tokens) × ((x.0 ≡ place_of xs) × Head xs x.1 ys) × Valued x.0 x.1 ys t zs

-- type NAME ["=" expr] ";"
abbrev pub LocalLine : Reads Stmt
LocalLine xs t zs = (x : Place × (Ty × List ℕ)) × (ys : Tokens) × ((x.0 ≡ place_of xs) × Head xs x.1 ys) × Declares x.0 x.1 ys t zs

-- type NAME ["=" expr] ";" | change ";"
abbrev pub Simple : Reads Stmt
Simple xs t zs = LocalLine xs t zs ⊎ Shut sign.SEMICOLON Change xs t zs
