use Rattle.gen_bounds.proofs.Bounds.{code_short}
use Rattle.gen_bounds.proofs.laws.code_is_short.Goals as goal

pub returns : goal.returns
returns c = code_short
