use Rattle.jp_pred.proofs.Visits.{blank_front}
use Rattle.jp_pred.proofs.supertypes.is_under_many.Goals as goal

pub from_blank-requires-clause-blank : goal.from_blank-requires-clause-blank
from_blank-requires-clause-blank c = λ i. blank_front _ 65536 i
