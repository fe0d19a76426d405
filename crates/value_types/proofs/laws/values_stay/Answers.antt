use Rattle.value_types.proofs.Stays.{stays}
use Rattle.value_types.proofs.laws.values_stay.Goals as goal

pub returns : goal.returns
returns c = stays
