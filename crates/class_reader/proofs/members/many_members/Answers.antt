use Rattle.std.proofs.lemmas.Result.{err_from_is_err_and}
use Rattle.class_reader.specs.Reading.{member_at}
use Rattle.class_reader.specs.Fields.{many_at}
use Rattle.class_reader.proofs.Loop.{goes_on, ends, is_done}
use Rattle.class_reader.proofs.members.many_members.Goals as goal

pub returns-in_err-found : goal.returns-in_err-found
returns-in_err-found c =
    let p = err_from_is_err_and c.from_residual.result c.from_residual.ensures.1 in
    rw (p.1, p.2) (ends (member_at c.args.constants.now) c.in_err-found.field-0.0 c.loop.members c.args.count c.loop.counter c.loop.rest.now (many_at (member_at c.args.constants.now) c.args.count c.args.bytes.now) c.loop-test.true c.in_err-found.ensures c.loop.invariant)

pub loop-preserved : goal.loop-preserved
loop-preserved c =
    let n = c.in_ok-found.found in
    rw c.in_ok-push.ensures.ok (goes_on (member_at c.args.constants.now) c.loop.members c.args.count c.loop.counter c.loop.rest.now n c.in_ok-found.after.now (many_at (member_at c.args.constants.now) c.args.count c.args.bytes.now) c.loop-test.true c.in_ok-found.ensures c.loop.invariant)

pub returns : goal.returns
returns c = is_done (member_at c.args.constants.now) c.loop.members c.args.count c.loop.counter c.loop.rest.now (many_at (member_at c.args.constants.now) c.args.count c.args.bytes.now) c.loop-test.false c.loop.invariant
