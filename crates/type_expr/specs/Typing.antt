-- What typing an expression answers.
use Rattle.std.specs.Prelude.{Result, Ok, Err}
use Rattle.jp_ast.specs.declared.expr.Expr.{Expr}
use Rattle.jp_meaning.specs.declared.expr.TypedExpr.{TypedExpr}
use Rattle.type_rules.specs.declared.scope.Scope.{Scope}
use Rattle.type_rules.specs.declared.seen.Role.TheVariants as role
use Rattle.type_rules.specs.Expressions.{part}
use Rattle.type_rules.specs.Typing.{IsTypedExpr, IsFirstFault}
use Rattle.type_heads.specs.declared.error.TypeErr.{TypeErr}
use Rattle.type_heads.specs.declared.error.TypeErr.TheVariants as stop

-- the resolved tree of an expression without a fault, or the first fault
abbrev pub TypesExpr : Scope → Expr → Result TypedExpr TypeErr → Type 0
TypesExpr s x (Ok tree) = IsTypedExpr s x tree
TypesExpr s x (Err (stop.Fault f)) = IsFirstFault (part s x role.Operand).visits f
TypesExpr s x (Err stop.OutOfMemory) = Unit {0}
