use Rattle.gen_member.proofs.Alone.{returned, returned_void}
use Rattle.gen_member.proofs.simple.put_return.Goals as goal

pub returns-in_ok-plain-in-None : goal.returns-in_ok-plain-in-None
returns-in_ok-plain-in-None c = returned_void c.args.code.now _ c.args.value.now c.in-None.is c.in_ok-plain-in-None.ensures.lines c.in_ok-plain-in-None.ensures.labels

pub returns-in_ok-need-in-Some : goal.returns-in_ok-need-in-Some
returns-in_ok-need-in-Some c = returned c.args.code.now _ c.end_return.result _ _ c.args.value.now _ _ c.in-Some.is c.kind_of_type.ensures c.in_ok-need-in-Some.ensures c.end_return.ensures
