use Rattle.code_fits.proofs.LabelledMembers.{lands}
use Rattle.code_fits.proofs.laws.code_lands.Goals as goal

pub returns : goal.returns
returns c = lands
