use Rattle.type_rules.proofs.GuardTrees.{sound_is_guarded}
use Rattle.type_rules.proofs.laws.sound_is_guarded.Goals as goal

pub returns : goal.returns
returns c = sound_is_guarded
