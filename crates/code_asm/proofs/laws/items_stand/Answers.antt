use Rattle.code_asm.proofs.Standing.{items_stand_lem}
use Rattle.code_asm.proofs.laws.items_stand.Goals as goal

pub returns : goal.returns
returns c = items_stand_lem
