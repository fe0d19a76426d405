use Rattle.unit_laws.proofs.OrdinaryNames.{methods_ordinary}
use Rattle.unit_laws.proofs.laws.read_methods_are_ordinary.Goals as goal

pub returns : goal.returns
returns c = methods_ordinary
