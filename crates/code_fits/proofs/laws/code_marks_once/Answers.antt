use Rattle.code_fits.proofs.LabelledMembers.{once}
use Rattle.code_fits.proofs.laws.code_marks_once.Goals as goal

pub returns : goal.returns
returns c = once
