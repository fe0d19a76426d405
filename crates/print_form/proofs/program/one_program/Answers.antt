use Rattle.print_form.proofs.One.{one_unit}
use Rattle.print_form.proofs.program.one_program.Goals as goal

pub returns : goal.returns
returns c = one_unit
