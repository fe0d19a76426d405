use Rattle.type_heads.specs.Supertypes.{words_at}
use Rattle.whole_classes.proofs.Reach.{joined_none, joined_item}
use Rattle.whole_classes.proofs.above.add_names.Goals as goal

pub loop-name-init : goal.loop-name-init
loop-name-init c = record { met = joined_none (words_at c.args.met.now.items); fresh = λ base j. j }

pub loop-name-preserved : goal.loop-name-preserved
loop-name-preserved c = record {
  met = joined_item (words_at c.add_name.new.met.items) (words_at c.loop-name.met.items) (words_at c.args.met.now.items) c.args.names.now c.loop-name.name-index c.name-item.result c.loop-name-test.true c.name-item.is
      c.loop-name.invariant.met c.in_ok-add_name.ensures.met;
  fresh = λ base j. c.in_ok-add_name.ensures.fresh base (c.loop-name.invariant.fresh base j);
}
