use Rattle.gen_member.proofs.Wholly.{block_ends}
use Rattle.gen_member.proofs.members.put_framed.Goals as goal

pub returns : goal.returns
returns c = block_ends c.args.m.now c.args.code.now _ c.end_member.result _ c.args.kind c.args.start _ _ c.as_slice.ensures c.in_ok-need.ensures c.end_member.ensures
