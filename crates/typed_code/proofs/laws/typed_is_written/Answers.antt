use Rattle.typed_code.proofs.UnitTold.{laid}
use Rattle.typed_code.proofs.laws.typed_is_written.Goals as goal

pub returns : goal.returns
returns c = laid
