use Rattle.pool_laws.proofs.Naming.{held_named}
use Rattle.pool_laws.proofs.laws.held_is_named.Goals as goal

pub returns : goal.returns
returns c = held_named
