use Rattle.jp_pred.proofs.Visits.{decided}
use Rattle.jp_pred.proofs.supertypes.from_blank.Goals as goal

pub returns : goal.returns
returns c = (c.visit.ensures.found, λ r. decided c.args.hier.now c.args.lower.now c.args.upper.now c.visit.result c.args.marks.now c.visit.new.marks c.requires.blank c.visit.ensures.closed c.visit.ensures.done r)
