use Rattle.type_rules.proofs.Values.{sound_is_seen}
use Rattle.type_rules.proofs.laws.sound_is_seen.Goals as goal

pub returns : goal.returns
returns c = sound_is_seen
