use Rattle.typed_fits.proofs.UnitFits.{typed_fit}
use Rattle.typed_fits.proofs.laws.typed_calls_fit.Goals as goal

pub returns : goal.returns
returns c = typed_fit
