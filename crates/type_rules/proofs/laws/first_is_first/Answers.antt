use Rattle.type_rules.proofs.Sentences.{first_is_first}
use Rattle.type_rules.proofs.laws.first_is_first.Goals as goal

pub returns : goal.returns
returns c = first_is_first
