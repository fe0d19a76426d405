use Rattle.std.proofs.lemmas.Result.{err_from_is_err_and}
use Rattle.class_reader.specs.Reading.{all_held_at, nothing_held}
use Rattle.class_reader.proofs.Loop.{held_go_on, held_end, held_is_done}
use Rattle.class_reader.proofs.members.all_held.Goals as goal

pub returns-in_err-more : goal.returns-in_err-more
returns-in_err-more c =
    let p = err_from_is_err_and c.from_residual.result c.from_residual.ensures.1 in
    rw (p.1, p.2) (held_end c.in_err-more.field-0.0 c.args.constants.now c.loop.held c.args.count c.loop.counter c.loop.rest.now (all_held_at c.args.constants.now nothing_held c.args.count c.args.bytes.now) c.loop-test.true c.in_err-more.ensures c.loop.invariant)

pub loop-preserved : goal.loop-preserved
loop-preserved c = held_go_on c.args.constants.now c.loop.held c.in_ok-more.more c.args.count c.loop.counter c.loop.rest.now c.in_ok-more.after.now (all_held_at c.args.constants.now nothing_held c.args.count c.args.bytes.now) c.loop-test.true c.in_ok-more.ensures c.loop.invariant

pub returns : goal.returns
returns c = held_is_done c.args.constants.now c.loop.held c.args.count c.loop.counter c.loop.rest.now (all_held_at c.args.constants.now nothing_held c.args.count c.args.bytes.now) c.loop-test.false c.loop.invariant
