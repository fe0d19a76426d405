use Rattle.code_texts.proofs.Texts.{methods}
use Rattle.code_texts.proofs.laws.short_methods_fit.Goals as goal

pub returns : goal.returns
returns c = methods
