use Rattle.gen_member.proofs.Alone.{of_none, of_value}
use Rattle.gen_member.proofs.simple.put_started.Goals as goal

pub returns-in-None : goal.returns-in-None
returns-in-None c = of_none c.args.code.now _ c.put_default.result c.args.kind c.args.slot c.args.value.now c.in-None.is c.put_default.ensures

pub returns-in_ok-need-in-Some : goal.returns-in_ok-need-in-Some
returns-in_ok-need-in-Some c = of_value c.args.code.now _ c.end_store.result _ _ c.args.kind c.args.slot c.args.value.now _ c.in-Some.is c.in_ok-need-in-Some.ensures c.end_store.ensures
