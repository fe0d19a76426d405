use Rattle.code_fits.proofs.LinesOfMembers.{opcodes}
use Rattle.code_fits.proofs.laws.code_has_opcodes.Goals as goal

pub returns : goal.returns
returns c = opcodes
