use Rattle.value_types.proofs.KindsOfValues.{kinds}
use Rattle.value_types.proofs.laws.values_are_of_kinds.Goals as goal

pub returns : goal.returns
returns c = kinds
