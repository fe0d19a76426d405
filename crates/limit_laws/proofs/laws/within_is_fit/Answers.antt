use Rattle.limit_laws.proofs.Fits.{fits}
use Rattle.limit_laws.proofs.laws.within_is_fit.Goals as goal

pub returns : goal.returns
returns c = fits
