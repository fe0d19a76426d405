use Rattle.value_types.proofs.KindsOfValues.{have_entries}
use Rattle.value_types.proofs.laws.values_have_entries.Goals as goal

pub returns : goal.returns
returns c = have_entries
