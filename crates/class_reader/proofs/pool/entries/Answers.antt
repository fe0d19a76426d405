use Rattle.std.proofs.Common.{true}
use Rattle.std.proofs.lemmas.Result.{err_from_is_err_and}
use Rattle.class_reader.specs.Reading.{entries_at}
use Rattle.class_reader.proofs.Loop.{entries_go_on, entries_end, entries_are_done}
use Rattle.class_reader.proofs.pool.entries.Goals as goal

pub returns-in_err-constant : goal.returns-in_err-constant
returns-in_err-constant c =
    let p = err_from_is_err_and c.from_residual.result c.from_residual.ensures.1 in
    rw (p.1, p.2) (entries_end c.in_err-constant.field-0.0 c.loop-i.constants c.loop-i.behind c.args.count c.loop-i.i c.loop-i.rest.now (entries_at true c.args.count c.args.bytes.now) c.loop-i-test.true c.in_err-constant.ensures c.loop-i.invariant)

pub loop-i-preserved : goal.loop-i-preserved
loop-i-preserved c =
    rw (c.in_ok-push.ensures.ok, c.is_wide-behind.ensures) (entries_go_on c.loop-i.constants c.loop-i.behind c.args.count c.loop-i.i c.loop-i.rest.now c.in_ok-constant.constant c.in_ok-constant.after.now (entries_at true c.args.count c.args.bytes.now) c.loop-i-test.true c.in_ok-constant.ensures c.loop-i.invariant)

pub returns : goal.returns
returns c = entries_are_done c.loop-i.constants c.loop-i.behind c.args.count c.loop-i.i c.loop-i.rest.now (entries_at true c.args.count c.args.bytes.now) c.loop-i-test.false c.loop-i.invariant
