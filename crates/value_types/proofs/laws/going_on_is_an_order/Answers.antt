use Rattle.value_types.proofs.Stays.{order}
use Rattle.value_types.proofs.laws.going_on_is_an_order.Goals as goal

pub returns : goal.returns
returns c = order
