use Rattle.plain_laws.proofs.Running.{plain_keeps}
use Rattle.plain_laws.proofs.laws.plain_keeps_the_meaning.Goals as goal

pub returns : goal.returns
returns c = plain_keeps
