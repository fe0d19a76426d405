use Rattle.limit_laws.proofs.Params.{few_params}
use Rattle.limit_laws.proofs.laws.within_has_few_params.Goals as goal

pub returns : goal.returns
returns c = few_params
