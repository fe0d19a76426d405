use Rattle.type_rules.proofs.ExpressionsExamples.{expressions_hold}
use Rattle.type_rules.proofs.laws.expressions_hold.Goals as goal

pub returns : goal.returns
returns c = expressions_hold
