use Rattle.gen_member.proofs.Doing.{do_stored}
use Rattle.gen_member.proofs.places.put_becomes.Goals as goal

pub returns : goal.returns
returns c = do_stored c.args.left.now c.args.right.now c.args.code.now _ _ _ _ _ c.end_becomes.result c.in_ok-first.ensures c.in_ok-value.ensures c.end_becomes.ensures
