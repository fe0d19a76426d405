use Rattle.pool_laws.proofs.Adding.{lines_add}
use Rattle.pool_laws.proofs.laws.lines_add_few.Goals as goal

pub returns : goal.returns
returns c = lines_add
