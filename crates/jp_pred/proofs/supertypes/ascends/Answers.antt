use Rattle.jp_pred.proofs.Ascents.{reached}
use Rattle.jp_pred.proofs.supertypes.ascends.Goals as goal

pub returns-then-len-le-MOST : goal.returns-then-len-le-MOST
returns-then-len-le-MOST c = reached c.args.hier.now c.args.lower.now c.args.upper.now c.is_under.result c.requires c.is_under.ensures.0 c.is_under.ensures.1
