use Rattle.code_texts.proofs.Texts.{names}
use Rattle.code_texts.proofs.laws.short_names_fit.Goals as goal

pub returns : goal.returns
returns c = names
