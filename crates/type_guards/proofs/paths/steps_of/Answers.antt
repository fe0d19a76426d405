use Rattle.std.proofs.Common.{◌∙◌}
use Rattle.type_guards.proofs.NodeFaults.{no_step}
use Rattle.type_guards.proofs.paths.steps_of.Goals as goal

pub returns-in_default : goal.returns-in_default
returns-in_default c =
    no_step c.args.scope.now c.args.steps.now c.loop-name.name-index c.name-item.result c.loop-name.before c.in_ok-next.field-0 c.loop-name-test.true c.name-item.is c.in_ok-next.ensures c.in_default.is
    ∙ c.loop-name.invariant
