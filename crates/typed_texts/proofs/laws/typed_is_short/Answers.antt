use Rattle.typed_texts.proofs.UnitShort.{typed_short}
use Rattle.typed_texts.proofs.laws.typed_is_short.Goals as goal

pub returns : goal.returns
returns c = typed_short
