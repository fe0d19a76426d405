use Rattle.class_forms.proofs.Sound.{class_sound}
use Rattle.class_forms.proofs.laws.class_constants_are_sound.Goals as goal

pub returns : goal.returns
returns c = class_sound
