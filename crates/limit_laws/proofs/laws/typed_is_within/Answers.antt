use Rattle.limit_laws.proofs.Within.{within_laid}
use Rattle.limit_laws.proofs.laws.typed_is_within.Goals as goal

pub returns : goal.returns
returns c = within_laid
