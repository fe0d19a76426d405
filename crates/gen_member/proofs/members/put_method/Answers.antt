use Rattle.gen_member.proofs.Wholly.{method_put}
use Rattle.gen_member.proofs.members.put_method.Goals as goal

pub returns : goal.returns
returns c = method_put c.args.m.now c.args.code.now _ c.put_framed.result c.args.hier.now c.args.method.now _ _ c.requires.labels c.kind_of_type.ensures c.in_ok-put_aliases.ensures c.put_framed.ensures
