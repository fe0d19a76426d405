-- Calls behind a dot, of a method that was looked for.
use Rattle.std.specs.Prelude.{List, [], false, Option, if◌then◌else◌}
use Rattle.jp_ast.specs.declared.token.Place.{Place}
use Rattle.jp_pred.specs.declared.ty.Ty.TheVariants as ty
use Rattle.jp_pred.specs.Names.{Word}
use Rattle.iface_codec.specs.declared.iface.IfaceMethod.{IfaceMethod}
use Rattle.jp_meaning.specs.declared.expr.TypedExpr.{TypedExpr}
use Rattle.jp_meaning.specs.declared.expr.TypedKind.TheVariants as made
use Rattle.type_rules.specs.declared.scope.Scope.{Scope}
use Rattle.type_rules.specs.declared.seen.Known.{Known}
use Rattle.type_rules.specs.declared.seen.Seen.{Seen}
use Rattle.type_rules.specs.declared.seen.Seen.TheVariants as seen
use Rattle.type_rules.specs.Types.{is_unknown}
use Rattle.type_rules.specs.Names.{class_of_value}
use Rattle.type_rules.specs.Expressions.{value, of_found, static_call, virtual_call}

-- on a value of unknown type
abbrev pub unknown_call : Place → Known → Word → List TypedExpr → Seen
unknown_call p k name args = value p ty.Void (made.CallVirtual k.expr [] false name [] args)

abbrev pub class_call : Place → Option (Word × IfaceMethod) → List TypedExpr → Seen
class_call p found args = of_found found (λ m. static_call p m.0 m.1 args)

abbrev pub value_call : Scope → Place → Known → Word → Option (Word × IfaceMethod) → List TypedExpr → Seen
value_call s p k name found args =
    if is_unknown k.expr.ty then unknown_call p k name args
    else of_found (class_of_value k) (λ class. of_found found (λ m. virtual_call s p k.expr class m.1 args))

abbrev pub found_call : Scope → Place → Seen → Word → Option (Word × IfaceMethod) → List TypedExpr → Seen
found_call s p (seen.Class class) name found args = class_call p found args
found_call s p (seen.Value k) name found args = value_call s p k name found args
found_call s p _ name found args = seen.Faulty
