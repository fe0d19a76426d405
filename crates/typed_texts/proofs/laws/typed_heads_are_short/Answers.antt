use Rattle.typed_texts.proofs.UnitShort.{heads_short}
use Rattle.typed_texts.proofs.laws.typed_heads_are_short.Goals as goal

pub returns : goal.returns
returns c = heads_short
