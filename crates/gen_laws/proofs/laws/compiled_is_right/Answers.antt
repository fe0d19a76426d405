use Rattle.gen_laws.proofs.Right.{is_right}
use Rattle.gen_laws.proofs.laws.compiled_is_right.Goals as goal

pub returns : goal.returns
returns c = is_right
