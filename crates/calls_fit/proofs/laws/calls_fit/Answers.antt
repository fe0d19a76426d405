use Rattle.calls_fit.proofs.Members.{calls_fit}
use Rattle.calls_fit.proofs.laws.calls_fit.Goals as goal

pub returns : goal.returns
returns c = calls_fit
