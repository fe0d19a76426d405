use Rattle.pool_laws.proofs.Extending.{holding_extends}
use Rattle.pool_laws.proofs.laws.holding_extends.Goals as goal

pub returns : goal.returns
returns c = holding_extends
