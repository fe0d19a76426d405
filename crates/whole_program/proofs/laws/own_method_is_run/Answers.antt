use Rattle.whole_program.proofs.Found.{own_is_run}
use Rattle.whole_program.proofs.laws.own_method_is_run.Goals as goal

pub returns : goal.returns
returns c = own_is_run
