use Rattle.code_fits.proofs.LinesOfMembers.{meant}
use Rattle.code_fits.proofs.laws.fitting_is_meant.Goals as goal

pub returns : goal.returns
returns c = meant
