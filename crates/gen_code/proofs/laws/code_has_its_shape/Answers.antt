use Rattle.gen_code.proofs.Formed.{code_fits}
use Rattle.gen_code.proofs.laws.code_has_its_shape.Goals as goal

pub returns : goal.returns
returns c = code_fits
