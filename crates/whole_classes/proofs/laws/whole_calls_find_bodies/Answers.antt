use Rattle.whole_classes.proofs.Calls.{find_bodies}
use Rattle.whole_classes.proofs.laws.whole_calls_find_bodies.Goals as goal

pub returns : goal.returns
returns c = find_bodies
