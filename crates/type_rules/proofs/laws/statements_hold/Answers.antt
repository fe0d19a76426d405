use Rattle.type_rules.proofs.StatementsExamples.{statements_hold}
use Rattle.type_rules.proofs.laws.statements_hold.Goals as goal

pub returns : goal.returns
returns c = statements_hold
