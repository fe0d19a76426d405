use Rattle.unit_laws.proofs.UnitUniverse.{unit_universe}
use Rattle.unit_laws.proofs.laws.unit_is_universe.Goals as goal

pub returns : goal.returns
returns c = unit_universe
