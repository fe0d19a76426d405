-- The resolved nodes whose scope makes no difference.
use Rattle.std.specs.Prelude.{ℕ, List, [], true, false, ◌==◌, if◌then◌else◌}
use Rattle.jp_ast.specs.declared.token.Place.{Place}
use Rattle.jp_ast.specs.declared.sign.TheConstants as sign
use Rattle.jp_pred.specs.declared.ty.Ty.{Ty}
use Rattle.jp_pred.specs.declared.ty.Ty.TheVariants as ty
use Rattle.jp_pred.specs.Names.{Word, object}
use Rattle.jp_meaning.specs.declared.expr.TypedExpr.{TypedExpr}
use Rattle.jp_meaning.specs.declared.expr.TypedKind.TheVariants as made
use Rattle.type_rules.specs.declared.seen.Seen.{Seen}
use Rattle.type_rules.specs.declared.seen.Seen.TheVariants as seen
use Rattle.type_rules.specs.Signs.{group_of, result_of}
use Rattle.type_rules.specs.Expressions.{tree, value, variable, of_value, element_of, array_of, io_call}

abbrev pub null_value : Place → Seen
null_value p = seen.Value (record { is_null = true; is_variable = false; expr = tree p (ty.Class object) made.Null })

abbrev pub unary_value : Place → ℕ → Seen → Seen
unary_value p n right = of_value right (λ r. value p (if n == sign.NOT then ty.Boolean else ty.Int) (made.Unary n r.expr))

abbrev pub binary_value : Place → ℕ → Seen → Seen → Seen
binary_value p n left right =
    of_value left (λ l. of_value right (λ r. value p (result_of (group_of n) l.expr.ty r.expr.ty) (made.Binary n l.expr r.expr)))

abbrev pub cast_value : Place → Word → Seen → Seen
cast_value p class part = of_value part (λ k. value p (ty.Class class) (made.Cast class k.expr))

abbrev pub instance_value : Place → Seen → Word → Seen
instance_value p part class = of_value part (λ k. value p ty.Boolean (made.InstanceOf k.expr class))

abbrev pub index_value : Place → Seen → Seen → Seen
index_value p array index = of_value array (λ a. of_value index (λ i. variable p (element_of a.expr.ty) (made.Index a.expr i.expr)))

abbrev pub new_array_value : Place → Ty → Seen → Seen
new_array_value p elem size = of_value size (λ k. value p (array_of elem) (made.NewArray elem k.expr))

-- a call of a method of Io, whose name makes no difference
abbrev pub io_value : Place → List TypedExpr → Seen
io_value p args = io_call p [] args
