use Rattle.value_types.proofs.Works.{sound}
use Rattle.value_types.proofs.laws.typed_work_is_sound.Goals as goal

pub returns : goal.returns
returns c = sound
