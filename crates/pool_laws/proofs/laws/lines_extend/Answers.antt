use Rattle.pool_laws.proofs.Extending.{lines_extend}
use Rattle.pool_laws.proofs.laws.lines_extend.Goals as goal

pub returns : goal.returns
returns c = lines_extend
