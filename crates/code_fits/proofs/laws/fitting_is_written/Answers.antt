use Rattle.code_fits.proofs.LinesOfMembers.{written}
use Rattle.code_fits.proofs.laws.fitting_is_written.Goals as goal

pub returns : goal.returns
returns c = written
