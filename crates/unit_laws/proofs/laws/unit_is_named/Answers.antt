use Rattle.unit_laws.proofs.UnitNames.{unit_named}
use Rattle.unit_laws.proofs.laws.unit_is_named.Goals as goal

pub returns : goal.returns
returns c = unit_named
