use Rattle.gen_member.proofs.Alone.{no_kind, of_kind}
use Rattle.gen_member.proofs.simple.put_declared.Goals as goal

pub returns-in-None : goal.returns-in-None
returns-in-None c = no_kind c.args.kind c.args.slot c.args.value.now c.args.code.now c.in-None.is

pub returns-in-Some : goal.returns-in-Some
returns-in-Some c = of_kind c.args.code.now _ c.put_started.result c.args.kind _ c.args.slot c.args.value.now c.in-Some.is c.put_started.ensures
