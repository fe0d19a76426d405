use Rattle.code_fits.proofs.LabelledMembers.{labelled}
use Rattle.code_fits.proofs.laws.code_is_labelled.Goals as goal

pub returns : goal.returns
returns c = labelled
