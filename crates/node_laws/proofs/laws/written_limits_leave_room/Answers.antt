use Rattle.node_laws.proofs.UnitNodes.{room_for_written}
use Rattle.node_laws.proofs.laws.written_limits_leave_room.Goals as goal

pub returns : goal.returns
returns c = room_for_written
