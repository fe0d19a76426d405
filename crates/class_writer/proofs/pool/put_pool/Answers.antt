use Rattle.std.proofs.Common.{length, ◌++◌}
use Rattle.std.proofs.lemmas.List.Elements.{All-more}
use Rattle.class_form.specs.Layout.{u2, constant_bytes, NumberInRange}
use Rattle.class_writer.proofs.Lists.{piece_more}
use Rattle.class_writer.proofs.pool.put_pool.Goals as goal

pub loop-constant-preserved : goal.loop-constant-preserved
loop-constant-preserved c = record {
  spelled = piece_more constant_bytes (c.args.out.now.items ++ u2 (length c.args.constants.now)) c.loop-constant.out.items c.put_constant.new.out.items c.args.constants.now c.loop-constant.constant-index c.constant-item.result c.loop-constant.invariant.spelled c.in_ok-put_constant.ensures.spelled c.loop-constant-test.true c.constant-item.is;
  numbers = All-more NumberInRange c.args.constants.now c.loop-constant.constant-index c.constant-item.result c.loop-constant-test.true c.loop-constant.invariant.numbers (rw (← c.constant-item.is) c.in_ok-put_constant.ensures.numbers);
}
