use Rattle.gen_member.proofs.Wholly.{no_super, super_put}
use Rattle.gen_member.proofs.members.put_super_call.Goals as goal

pub returns-in-None : goal.returns-in-None
returns-in-None c = no_super c.args.superclass.now c.args.m.now c.args.code.now c.in-None.is

pub returns-in_ok-rest-in-Some : goal.returns-in_ok-rest-in-Some
returns-in_ok-rest-in-Some c =
    super_put c.args.m.now c.args.code.now _ c.end_super_call.result c.args.superclass.now _ _ _ _ _ _ c.in-Some.is c.as_slice-in-Some.ensures c.as_slice.ensures (record { lines = c.in_ok-plain-in-Some.ensures.lines; labels = c.in_ok-plain-in-Some.ensures.labels }) c.in_ok-rest-in-Some.ensures c.end_super_call.ensures
