use Rattle.std.proofs.Common.{◌∙◌}
use Rattle.type_heads.specs.Supertypes.{words_at}
use Rattle.type_heads.proofs.Levels.{next_name}
use Rattle.type_heads.proofs.hierarchy.add_unmet.Goals as goal

pub loop-name-preserved : goal.loop-name-preserved
loop-name-preserved c =
    next_name (words_at c.loop-name.met.items) (words_at c.add_one.new.met.items) c.args.names.now c.loop-name.name-index c.name-item.result c.loop-name-test.true c.name-item.is c.in_ok-add_one.ensures ∙ c.loop-name.invariant
