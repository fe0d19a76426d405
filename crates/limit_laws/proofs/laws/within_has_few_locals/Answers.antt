use Rattle.limit_laws.proofs.Units.{few_locals}
use Rattle.limit_laws.proofs.laws.within_has_few_locals.Goals as goal

pub returns : goal.returns
returns c = few_locals
