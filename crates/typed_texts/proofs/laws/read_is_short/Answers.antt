use Rattle.typed_texts.proofs.ReadUnits.{read_short}
use Rattle.typed_texts.proofs.laws.read_is_short.Goals as goal

pub returns : goal.returns
returns c = read_short
