-- How expressions are written, as far as statements look at that.
use Rattle.std.specs.Prelude.{Bool, true, false}
use Rattle.jp_ast.specs.declared.expr.Expr.{Expr}
use Rattle.jp_ast.specs.declared.expr.ExprKind.{ExprKind, ExprKind-F, out-ExprKind}
use Rattle.jp_ast.specs.declared.expr.ExprKind.TheOpen as e

-- `true` or `false`; a name, a field or an element; a call or `new C(..)`; another form
pub data Form : Type 0 where
  IsTruth : Bool → Form
  IsVariable : Form
  IsCall : Form
  IsOther : Form

abbrev pub form_step : ExprKind-F ExprKind Expr → Form
form_step (e.Truth value) = IsTruth value
form_step (e.Var name) = IsVariable
form_step (e.Field object name) = IsVariable
form_step (e.Index array index) = IsVariable
form_step (e.Call object name args) = IsCall
form_step (e.SuperCall name args) = IsCall
form_step (e.New class args) = IsCall
form_step _ = IsOther

abbrev pub form_of : Expr → Form
form_of x = form_step (out-ExprKind x.kind)

-- the literal `true`
abbrev pub is_true : Form → Bool
is_true (IsTruth value) = value
is_true _ = false

abbrev pub is_variable : Form → Bool
is_variable IsVariable = true
is_variable _ = false

abbrev pub is_call : Form → Bool
is_call IsCall = true
is_call _ = false
