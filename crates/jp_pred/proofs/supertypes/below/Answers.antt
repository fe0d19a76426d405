use Rattle.std.proofs.Common.{rules}
use Rattle.jp_pred.proofs.Ascents.{exactly_below}
use Rattle.jp_pred.proofs.supertypes.below.Goals as goal

pub returns-else-eq-clause-exact : goal.returns-else-eq-clause-exact
returns-else-eq-clause-exact c = exactly_below c.args.hier.now c.args.lower.now c.args.upper.now c.ascends.result c.requires (search rules)
