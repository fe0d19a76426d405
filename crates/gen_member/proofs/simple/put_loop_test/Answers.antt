use Rattle.gen_member.proofs.Alone.{tested_true, tested}
use Rattle.gen_member.proofs.simple.put_loop_test.Goals as goal

pub returns-in-None : goal.returns-in-None
returns-in-None c = tested_true c.args.code.now _ c.put_true_test.result c.args.test.now c.args.to c.in-None.is c.put_true_test.ensures

pub returns-in-Some : goal.returns-in-Some
returns-in-Some c = tested c.args.code.now _ c.put_test.result c.args.test.now _ c.args.to c.in-Some.is c.put_test.ensures
