use Rattle.typed_code.proofs.UnitOrdinary.{meant_members}
use Rattle.typed_code.proofs.laws.typed_is_meant.Goals as goal

pub returns : goal.returns
returns c = meant_members
