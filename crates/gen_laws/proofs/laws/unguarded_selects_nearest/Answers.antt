use Rattle.gen_laws.proofs.Nearest.{nearest}
use Rattle.gen_laws.proofs.laws.unguarded_selects_nearest.Goals as goal

pub returns : goal.returns
returns c = nearest
