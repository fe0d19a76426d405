use Rattle.type_rules.proofs.CallsExamples.{calls_hold}
use Rattle.type_rules.proofs.laws.calls_hold.Goals as goal

pub returns : goal.returns
returns c = calls_hold
