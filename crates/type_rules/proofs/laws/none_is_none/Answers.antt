use Rattle.type_rules.proofs.Sentences.{none_is_none}
use Rattle.type_rules.proofs.laws.none_is_none.Goals as goal

pub returns : goal.returns
returns c = none_is_none
