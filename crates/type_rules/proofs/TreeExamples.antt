-- The worked example of a resolved tree.
use Rattle.std.proofs.Common.{[], refl, ◌∙◌}
use Rattle.type_rules.specs.WorkedTree.{resolving, TreeHolds}
use Rattle.type_rules.proofs.Computing.{made_is}

pub tree_holds : TreeHolds
tree_holds = made_is resolving [] ∙ refl
