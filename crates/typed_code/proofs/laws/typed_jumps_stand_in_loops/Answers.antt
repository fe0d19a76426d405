use Rattle.typed_code.proofs.JumpsInLoops.{typed_stays}
use Rattle.typed_code.proofs.laws.typed_jumps_stand_in_loops.Goals as goal

pub returns : goal.returns
returns c = typed_stays
