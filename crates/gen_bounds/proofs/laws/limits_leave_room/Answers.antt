use Rattle.gen_bounds.proofs.Bounds.{room_left}
use Rattle.gen_bounds.proofs.laws.limits_leave_room.Goals as goal

pub returns : goal.returns
returns c = room_left
