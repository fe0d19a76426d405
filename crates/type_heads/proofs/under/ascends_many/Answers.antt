use Rattle.jp_pred.proofs.Visits.{blank_front}
use Rattle.type_heads.proofs.under.ascends_many.Goals as goal

pub from_blank-requires-clause-blank : goal.from_blank-requires-clause-blank
from_blank-requires-clause-blank c = λ i. blank_front _ 65536 i
