use Rattle.gen_member.proofs.Doing.{do_read}
use Rattle.gen_member.proofs.places.put_changed.Goals as goal

pub returns : goal.returns
returns c = do_read c.args.left.now c.args.right.now c.args.op c.args.code.now _ _ _ _ _ _ c.end_change.result c.in_ok-first.ensures c.in_ok-begin_change.ensures c.in_ok-second.ensures c.end_change.ensures
