use Rattle.jpred_cli.proofs.Answering.{ended}
use Rattle.jpred_cli.proofs.top.carry_out.Goals as goal

pub returns-clause-answers : goal.returns-clause-answers
returns-clause-answers g c = λ words asked.
    record {
      ending = c.go-ending.result;
      main = c.args.command.main.now;
      unit = c.args.command.unit.now;
      ended = ended words c.args.command.main.now c.args.command.unit.now _ _ c.go-ending.result asked c.go-ending.ensures.did;
      reports = c.report.ensures;
    }
