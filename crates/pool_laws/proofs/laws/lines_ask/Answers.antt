use Rattle.pool_laws.proofs.Extending.{lines_ask}
use Rattle.pool_laws.proofs.laws.lines_ask.Goals as goal

pub returns : goal.returns
returns c = lines_ask
