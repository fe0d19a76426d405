-- The nodes that the productions make, each at a place.
use Rattle.std.specs.Prelude.{ℕ, Bool, List, Option, Some, None}
use Rattle.jp_pred.specs.declared.ty.Ty.{Ty}
use Rattle.jp_ast.specs.declared.token.Place.{Place}
use Rattle.jp_ast.specs.declared.expr.Expr.{Expr}
use Rattle.jp_ast.specs.declared.expr.ExprKind.TheVariants as made

-- `value`, written in hexadecimal digits or not
abbrev pub number_at : Place → ℕ → Bool → Expr
number_at at value hex = record { place = at; kind = made.Number value hex }

-- `"text"`
abbrev pub text_at : Place → List ℕ → Expr
text_at at text = record { place = at; kind = made.Text text }

-- `true` or `false`
abbrev pub truth_at : Place → Bool → Expr
truth_at at value = record { place = at; kind = made.Truth value }

-- `null`
abbrev pub null_at : Place → Expr
null_at at = record { place = at; kind = made.Null }

-- `this`
abbrev pub this_at : Place → Expr
this_at at = record { place = at; kind = made.This }

-- `sign right`
abbrev pub unary_at : Place → ℕ → Expr → Expr
unary_at at sign right = record { place = at; kind = made.Unary sign right }

-- `left sign right`
abbrev pub binary_at : Place → ℕ → Expr → Expr → Expr
binary_at at sign left right = record { place = at; kind = made.Binary sign left right }

-- `value instanceof class`
abbrev pub instance_at : Place → Expr → List ℕ → Expr
instance_at at value class = record { place = at; kind = made.InstanceOf value class }

-- `test ? first : second`
abbrev pub cond_at : Place → Expr → Expr → Expr → Expr
cond_at at test first second = record { place = at; kind = made.Cond test first second }

-- `(class) value`
abbrev pub cast_at : Place → List ℕ → Expr → Expr
cast_at at class value = record { place = at; kind = made.Cast class value }

-- `name`, or `object.name`
abbrev pub named_at : Place → Option Expr → List ℕ → Expr
named_at at None name = record { place = at; kind = made.Var name }
named_at at (Some object) name = record { place = at; kind = made.Field object name }

-- `name(args)`, or `object.name(args)`
abbrev pub called_at : Place → Option Expr → List ℕ → List Expr → Expr
called_at at object name args = record { place = at; kind = made.Call object name args }

-- `array[index]`
abbrev pub index_at : Place → Expr → Expr → Expr
index_at at array index = record { place = at; kind = made.Index array index }

-- `super.name(args)`
abbrev pub super_at : Place → List ℕ → List Expr → Expr
super_at at name args = record { place = at; kind = made.SuperCall name args }

-- `new class(args)`
abbrev pub new_at : Place → List ℕ → List Expr → Expr
new_at at class args = record { place = at; kind = made.New class args }

-- `new elem[size]`
abbrev pub array_at : Place → Ty → Expr → Expr
array_at at elem size = record { place = at; kind = made.NewArray elem size }
