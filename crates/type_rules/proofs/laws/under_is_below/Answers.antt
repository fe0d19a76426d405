use Rattle.type_rules.proofs.Ways.{under_is_below}
use Rattle.type_rules.proofs.laws.under_is_below.Goals as goal

pub returns : goal.returns
returns c = under_is_below
