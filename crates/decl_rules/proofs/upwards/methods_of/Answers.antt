use Rattle.std.proofs.Common.{◌∙◌}
use Rattle.decl_rules.specs.Standing.{methods_at}
use Rattle.decl_rules.proofs.Inherits.{next_methods}
use Rattle.decl_rules.proofs.upwards.methods_of.Goals as goal

pub loop-class-preserved : goal.loop-class-preserved
loop-class-preserved c =
    next_methods c.args.heads.now c.args.classes.now c.loop-class.class-index c.class-item.result (methods_at c.loop-class.all.items) (methods_at c.add_named.new.all.items)
    c.loop-class-test.true c.class-item.is c.in_ok-add_named.ensures ∙ c.loop-class.invariant
