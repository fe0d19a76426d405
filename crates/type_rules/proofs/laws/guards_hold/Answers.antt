use Rattle.type_rules.proofs.GuardsExamples.{guards_hold}
use Rattle.type_rules.proofs.laws.guards_hold.Goals as goal

pub returns : goal.returns
returns c = guards_hold
