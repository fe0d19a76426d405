use Rattle.pool_laws.proofs.Soundness.{lines_keep}
use Rattle.pool_laws.proofs.laws.lines_keep_soundness.Goals as goal

pub returns : goal.returns
returns c = lines_keep
