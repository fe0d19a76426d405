use Rattle.class_forms.proofs.Fit.{class_is_fit}
use Rattle.class_forms.proofs.laws.short_class_is_fit.Goals as goal

pub returns : goal.returns
returns c = class_is_fit
