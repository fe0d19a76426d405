use Rattle.jpred_cli.proofs.Joins.{did_not_put, did_run}
use Rattle.jpred_cli.proofs.command.go.Goals as goal

pub returns-in-Err-put_class-clause-did : goal.returns-in-Err-put_class-clause-did
returns-in-Err-put_class-clause-did g c =
    did_not_put c.args.main.now c.args.unit.now _ _ _ _ _ _ _ _ c.in-Ok.numbers c.deref.result.now c.in-Err-put_class.ending c.in-Ok.ensures c.in-Err-put_class.ensures

pub returns-clause-did : goal.returns-clause-did
returns-clause-did g c =
    did_run c.args.main.now c.args.unit.now _ _ _ _ _ _ _ _ _ _ c.in-Ok.numbers c.deref.result.now c.deref-2.result.now c.in-Ok-put_class.file c.run_class.result c.deref.ensures.value c.deref-2.ensures.value c.in-Ok.ensures c.in-Ok-put_class.ensures c.run_class.ensures.ran
