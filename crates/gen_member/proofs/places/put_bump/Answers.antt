use Rattle.gen_member.proofs.Doing.{do_bumped}
use Rattle.gen_member.proofs.places.put_bump.Goals as goal

pub returns : goal.returns
returns c = do_bumped c.code_has_its_shape.ensures c.args.left.now c.args.up c.args.code.now _ _ _ c.end_bump.result c.in_ok-first.ensures c.end_bump.ensures
