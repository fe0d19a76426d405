use Rattle.type_rules.proofs.TreeExamples.{tree_holds}
use Rattle.type_rules.proofs.laws.tree_holds.Goals as goal

pub returns : goal.returns
returns c = tree_holds
