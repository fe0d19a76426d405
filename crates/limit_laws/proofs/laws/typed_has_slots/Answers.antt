use Rattle.limit_laws.proofs.Units.{slots}
use Rattle.limit_laws.proofs.laws.typed_has_slots.Goals as goal

pub returns : goal.returns
returns c = slots
