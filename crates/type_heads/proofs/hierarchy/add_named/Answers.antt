use Rattle.std.proofs.Common.{◌∙◌}
use Rattle.type_heads.specs.Supertypes.{words_at}
use Rattle.type_heads.proofs.Levels.{next_class}
use Rattle.type_heads.proofs.hierarchy.add_named.Goals as goal

pub loop-class-preserved : goal.loop-class-preserved
loop-class-preserved c =
    next_class (words_at c.loop-class.met.items) (words_at c.add_unmet.new.met.items) c.args.classes.now c.loop-class.class-index c.class-item.result c.as_slice.result.now c.loop-class-test.true c.class-item.is c.as_slice.ensures c.in_ok-add_unmet.ensures
    ∙ c.loop-class.invariant
