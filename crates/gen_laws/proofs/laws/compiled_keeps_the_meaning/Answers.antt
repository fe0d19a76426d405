use Rattle.gen_laws.proofs.Right.{keeps_the_meaning}
use Rattle.gen_laws.proofs.laws.compiled_keeps_the_meaning.Goals as goal

pub returns : goal.returns
returns c = keeps_the_meaning
