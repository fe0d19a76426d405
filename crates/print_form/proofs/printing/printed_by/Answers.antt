use Rattle.print_form.proofs.Printed.{run_gives}
use Rattle.print_form.proofs.printing.printed_by.Goals as goal

pub returns-in-Run : goal.returns-in-Run
returns-in-Run c = run_gives c.printed_with.result c.args.statement.now c.in-Run.call c.in-Run.is c.printed_with.ensures
