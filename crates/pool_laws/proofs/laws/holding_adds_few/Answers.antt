use Rattle.pool_laws.proofs.Adding.{holding_adds}
use Rattle.pool_laws.proofs.laws.holding_adds_few.Goals as goal

pub returns : goal.returns
returns c = holding_adds
