use Rattle.type_rules.proofs.NamesExamples.{names_hold}
use Rattle.type_rules.proofs.laws.names_hold.Goals as goal

pub returns : goal.returns
returns c = names_hold
