use Rattle.typed_code.proofs.UnitOrdinary.{usual_calls}
use Rattle.typed_code.proofs.laws.typed_calls_ordinary.Goals as goal

pub returns : goal.returns
returns c = usual_calls
