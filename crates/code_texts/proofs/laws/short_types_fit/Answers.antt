use Rattle.code_texts.proofs.Texts.{types}
use Rattle.code_texts.proofs.laws.short_types_fit.Goals as goal

pub returns : goal.returns
returns c = types
