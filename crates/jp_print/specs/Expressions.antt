-- The tokens that an expression is printed as, and where parentheses stand.
use Rattle.std.specs.Prelude.{ℕ, zero, suc, Bool, true, false, not, ◌&&◌, if◌then◌else◌, List, [], ◌∷◌, ◌++◌, map, flat_map, Option, Some, None, codes}
use Rattle.jp_pred.specs.declared.ty.Ty.{Ty}
use Rattle.jp_pred.specs.declared.ty.Ty.TheVariants as ty
use Rattle.jp_ast.specs.declared.token.Lexeme.{Lexeme}
use Rattle.jp_ast.specs.declared.token.Lexeme.TheVariants.{Word, Number, Text, Sign}
use Rattle.jp_ast.specs.declared.expr.Expr.{Expr, fold-Expr}
use Rattle.jp_ast.specs.declared.expr.ExprKind.{ExprKind-F}
use Rattle.jp_ast.specs.declared.expr.ExprKind.TheOpen as expr_kind
use Rattle.jp_ast.specs.declared.sign.TheConstants as sign

-- tokens in parentheses
abbrev pub in_parens : List Lexeme → List Lexeme
in_parens tokens = Sign sign.OPEN_PAREN ∷ tokens ++ Sign sign.CLOSE_PAREN ∷ []

-- tokens in brackets
abbrev pub in_brackets : List Lexeme → List Lexeme
in_brackets tokens = Sign sign.OPEN_BRACKET ∷ tokens ++ Sign sign.CLOSE_BRACKET ∷ []

-- a further part of a list
abbrev pub behind_comma : List Lexeme → List Lexeme
behind_comma part = Sign sign.COMMA ∷ part

-- the parts of a list, with a comma between two
abbrev pub commas : List (List Lexeme) → List Lexeme
commas [] = []
commas (first ∷ others) = first ++ flat_map behind_comma others

-- what stands in front of the part at this place
abbrev pub comma_at : ℕ → List Lexeme
comma_at zero = []
comma_at (suc place) = Sign sign.COMMA ∷ []

-- the tokens of what may be left out
abbrev pub maybe : {T : Type 0} → (T → List Lexeme) → Option T → List Lexeme
maybe tokens None = []
maybe tokens (Some part) = tokens part

-- the name of a type, with `[` and `]` behind that of an array's elements
abbrev pub type_tokens : Ty → List Lexeme
type_tokens ty.Void = Word (codes "void") ∷ []
type_tokens ty.Int = Word (codes "int") ∷ []
type_tokens ty.Boolean = Word (codes "boolean") ∷ []
type_tokens (ty.Class class) = Word class ∷ []
type_tokens ty.IntArray = Word (codes "int") ∷ Sign sign.OPEN_BRACKET ∷ Sign sign.CLOSE_BRACKET ∷ []
type_tokens ty.BooleanArray = Word (codes "boolean") ∷ Sign sign.OPEN_BRACKET ∷ Sign sign.CLOSE_BRACKET ∷ []
type_tokens (ty.ClassArray class) = Word class ∷ Sign sign.OPEN_BRACKET ∷ Sign sign.CLOSE_BRACKET ∷ []

-- `true` or `false`
abbrev pub truth_word : Bool → Lexeme
truth_word true = Word (codes "true")
truth_word false = Word (codes "false")

-- an expression as it is printed: its tokens, whether it is a primary or a postfix form, and whether it is the
-- postfix form that creates an array
pub record Printed : Type 0 where
  pub tokens : List Lexeme
  pub alone : Bool
  pub creates : Bool

-- a primary or a postfix form, other than a created array
abbrev pub primary : List Lexeme → Printed
primary tokens = record { tokens = tokens; alone = true; creates = false }

-- a created array
abbrev pub created : List Lexeme → Printed
created tokens = record { tokens = tokens; alone = true; creates = true }

-- what stands in parentheses wherever it is a part of something else
abbrev pub loose : List Lexeme → Printed
loose tokens = record { tokens = tokens; alone = false; creates = false }

-- an expression as an operand, as what stands in front of `.`, as what is changed, or as a statement: in parentheses
-- if it isn't a primary or a postfix form
abbrev pub operand : Printed → List Lexeme
operand part = if part.alone then part.tokens else in_parens part.tokens

-- an expression directly in front of `[`: a created array stands in parentheses there too
abbrev pub array : Printed → List Lexeme
array part = if part.alone && not part.creates then part.tokens else in_parens part.tokens

-- expressions with a comma between two
abbrev pub listed : List Printed → List Lexeme
listed args = commas (map (λ arg. arg.tokens) args)

-- arguments in parentheses
abbrev pub arguments : List Printed → List Lexeme
arguments args = in_parens (listed args)

-- `.` and a name
abbrev pub dot_name : List ℕ → List Lexeme
dot_name name = Sign sign.DOT ∷ Word name ∷ []

-- `instanceof` and the name of a class
abbrev pub instance_of : List ℕ → List Lexeme
instance_of class = Word (codes "instanceof") ∷ Word class ∷ []

-- an object and the `.` behind it
abbrev pub receiver : Printed → List Lexeme
receiver object = operand object ++ Sign sign.DOT ∷ []

-- each form of an expression, over what its parts are printed as
abbrev pub expr_step : ExprKind-F Printed Printed → Printed
expr_step (expr_kind.Number value hex) = primary (Number value hex ∷ [])
expr_step (expr_kind.Truth value) = primary (truth_word value ∷ [])
expr_step expr_kind.Null = primary (Word (codes "null") ∷ [])
expr_step (expr_kind.Text text) = primary (Text text ∷ [])
expr_step expr_kind.This = primary (Word (codes "this") ∷ [])
expr_step (expr_kind.Var name) = primary (Word name ∷ [])
expr_step (expr_kind.Unary sign right) = loose (Sign sign ∷ operand right)
expr_step (expr_kind.Binary sign left right) = loose (operand left ++ Sign sign ∷ operand right)
expr_step (expr_kind.Cond test first second) =
    loose (operand test ++ Sign sign.QUESTION ∷ operand first ++ Sign sign.COLON ∷ operand second)
expr_step (expr_kind.Cast class value) = loose (in_parens (Word class ∷ []) ++ operand value)
expr_step (expr_kind.InstanceOf value class) = loose (operand value ++ instance_of class)
expr_step (expr_kind.Field object name) = primary (operand object ++ dot_name name)
expr_step (expr_kind.Index object index) = primary (array object ++ in_brackets index.tokens)
expr_step (expr_kind.Call object name args) = primary (maybe receiver object ++ Word name ∷ arguments args)
expr_step (expr_kind.SuperCall name args) = primary (Word (codes "super") ∷ dot_name name ++ arguments args)
expr_step (expr_kind.New class args) = primary (Word (codes "new") ∷ Word class ∷ arguments args)
expr_step (expr_kind.NewArray elem size) = created (Word (codes "new") ∷ type_tokens elem ++ in_brackets size.tokens)

-- an expression as it is printed
unfoldable pub printed_expr : Expr → Printed
printed_expr = fold-Expr Printed Printed expr_step (λ e. e.kind)

-- the tokens of an expression that is part of no other
abbrev pub expr_tokens : Expr → List Lexeme
expr_tokens e = (printed_expr e).tokens

-- the tokens of an expression as an operand
abbrev pub operand_tokens : Expr → List Lexeme
operand_tokens e = operand (printed_expr e)
