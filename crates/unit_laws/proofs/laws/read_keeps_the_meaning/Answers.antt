use Rattle.unit_laws.proofs.Running.{keeps}
use Rattle.unit_laws.proofs.laws.read_keeps_the_meaning.Goals as goal

pub returns : goal.returns
returns c = keeps
