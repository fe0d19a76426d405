use Rattle.gen_bounds.proofs.Bounds.{few_pieces}
use Rattle.gen_bounds.proofs.laws.limits_leave_few_pieces.Goals as goal

pub returns : goal.returns
returns c = few_pieces
