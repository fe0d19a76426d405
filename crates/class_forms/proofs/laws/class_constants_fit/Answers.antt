use Rattle.class_forms.proofs.Fitting.{class_fits}
use Rattle.class_forms.proofs.laws.class_constants_fit.Goals as goal

pub returns : goal.returns
returns c = class_fits
