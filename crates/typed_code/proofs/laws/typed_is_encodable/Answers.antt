use Rattle.typed_code.proofs.UnitTold.{encodable}
use Rattle.typed_code.proofs.laws.typed_is_encodable.Goals as goal

pub returns : goal.returns
returns c = encodable
