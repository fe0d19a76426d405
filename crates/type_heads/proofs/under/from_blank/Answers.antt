use Rattle.type_heads.proofs.Search.{reached}
use Rattle.type_heads.proofs.under.from_blank.Goals as goal

pub returns : goal.returns
returns c = reached c.args.heads.now c.args.lower.now c.args.upper.now c.visit.result c.args.marks.now c.visit.new.marks c.requires.blank c.visit.ensures.found c.visit.ensures.closed c.visit.ensures.done
