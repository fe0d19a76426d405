use Rattle.type_rules.proofs.DeclarationsExamples.{declarations_hold}
use Rattle.type_rules.proofs.laws.declarations_hold.Goals as goal

pub returns : goal.returns
returns c = declarations_hold
