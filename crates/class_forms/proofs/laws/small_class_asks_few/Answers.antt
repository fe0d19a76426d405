use Rattle.class_forms.proofs.Few.{class_asks_few}
use Rattle.class_forms.proofs.laws.small_class_asks_few.Goals as goal

pub returns : goal.returns
returns c = class_asks_few
