use Rattle.plain_laws.proofs.MainMethod.{has_a_main}
use Rattle.plain_laws.proofs.laws.plain_has_main.Goals as goal

pub returns : goal.returns
returns c = has_a_main
