use Rattle.class_lines.proofs.Widening.{widen}
use Rattle.class_lines.proofs.laws.values_widen.Goals as goal

pub returns : goal.returns
returns c = widen
