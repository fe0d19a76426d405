use Rattle.value_types.proofs.Holding.{first}
use Rattle.value_types.proofs.laws.the_first_store_is_typed.Goals as goal

pub returns : goal.returns
returns c = first
