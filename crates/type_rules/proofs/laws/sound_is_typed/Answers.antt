use Rattle.type_rules.proofs.UnitTrees.{sound_is_typed}
use Rattle.type_rules.proofs.laws.sound_is_typed.Goals as goal

pub returns : goal.returns
returns c = sound_is_typed
