use Rattle.gen_member.proofs.Wholly.{constructor_put}
use Rattle.gen_member.proofs.members.put_constructor.Goals as goal

pub returns : goal.returns
returns c = constructor_put c.args.m.now c.args.code.now _ c.put_framed.result c.args.superclass.now _ _ c.requires c.in_ok-need.ensures c.put_framed.ensures
