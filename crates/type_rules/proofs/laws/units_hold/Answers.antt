use Rattle.type_rules.proofs.UnitsExamples.{units_hold}
use Rattle.type_rules.proofs.laws.units_hold.Goals as goal

pub returns : goal.returns
returns c = units_hold
