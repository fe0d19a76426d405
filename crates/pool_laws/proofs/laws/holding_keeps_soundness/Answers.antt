use Rattle.pool_laws.proofs.Soundness.{holding_keeps}
use Rattle.pool_laws.proofs.laws.holding_keeps_soundness.Goals as goal

pub returns : goal.returns
returns c = holding_keeps
