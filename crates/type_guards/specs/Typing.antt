-- What typing a guard answers, and which scope it leaves.
use Rattle.std.specs.Prelude.{◌≡◌, Result, Ok, Err}
use Rattle.jp_ast.specs.declared.guard.GuardExpr.{GuardExpr}
use Rattle.jp_meaning.specs.declared.guard.TypedGuard.{TypedGuard}
use Rattle.type_rules.specs.declared.guard_scope.GuardScope.{GuardScope}
use Rattle.type_rules.specs.Guards.{guarded}
use Rattle.type_rules.specs.Typing.{IsTypedGuard, IsFirstFault}
use Rattle.type_heads.specs.declared.error.TypeErr.{TypeErr}
use Rattle.type_heads.specs.declared.error.TypeErr.TheVariants as stop

-- the resolved tree of a guard without a fault, or the first fault
abbrev pub TypesGuard : GuardScope → GuardExpr → Result TypedGuard TypeErr → Type 0
TypesGuard c x (Ok tree) = IsTypedGuard c x tree
TypesGuard c x (Err (stop.Fault f)) = IsFirstFault (guarded x c).visits f
TypesGuard c x (Err stop.OutOfMemory) = Unit {0}

-- the scope behind the guard
abbrev pub Leaves : GuardScope → GuardExpr → GuardScope → Result TypedGuard TypeErr → Type 0
Leaves c x d (Ok tree) = d ≡ (guarded x c).after
Leaves c x d (Err (stop.Fault f)) = d ≡ (guarded x c).after
Leaves c x d (Err stop.OutOfMemory) = Unit {0}
