use Rattle.typed_texts.proofs.ReadUnits.{members_short}
use Rattle.typed_texts.proofs.laws.read_members_are_short.Goals as goal

pub returns : goal.returns
returns c = members_short
