use Rattle.std.proofs.Common.{◌∙◌}
use Rattle.type_guards.proofs.Walked.{next_summand, next_first}
use Rattle.type_guards.proofs.summands.summands.Goals as goal

pub loop-one-preserved : goal.loop-one-preserved
loop-one-preserved c = record {
  made = next_summand c.args.scope.now c.args.all.now c.loop-one.one-index c.one-item.result c.loop-one.done c.in_ok-done.done c.in_ok-found.found c.loop-one.first.fault c.summand.new.first.fault
      c.loop-one-test.true c.one-item.is c.in_ok-found.ensures c.in_ok-done.ensures ∙ c.loop-one.invariant.made;
  first = next_first c.args.scope.now c.args.all.now c.loop-one.one-index c.one-item.result c.in_ok-found.found c.loop-one.first.fault c.summand.new.first.fault
      c.loop-one-test.true c.one-item.is c.in_ok-found.ensures ∙ c.loop-one.invariant.first;
}
