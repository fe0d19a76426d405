use Rattle.plain_sizes.proofs.Plain.{room}
use Rattle.plain_sizes.proofs.laws.plain_has_room.Goals as goal

pub returns : goal.returns
returns c = room
