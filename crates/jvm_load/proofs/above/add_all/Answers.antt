use Rattle.jvm_load.proofs.Reach.{joined_none, joined_item}
use Rattle.jvm_load.proofs.above.add_all.Goals as goal

pub loop-at-init : goal.loop-at-init
loop-at-init c = record { met = joined_none c.args.met.now.items; fresh = λ base j. j }

pub loop-at-preserved : goal.loop-at-preserved
loop-at-preserved c = record {
  met = joined_item c.add_new.new.met.items c.loop-at.met.items c.args.met.now.items c.args.supers.now c.loop-at.at-index c.loop-at-test.true c.loop-at.invariant.met c.in_ok-add_new.ensures.met;
  fresh = λ base j. c.in_ok-add_new.ensures.fresh base (c.loop-at.invariant.fresh base j);
}
