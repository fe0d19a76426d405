-- A sample without a fault, by computing.
use Rattle.std.proofs.Common.{◌≡◌, List, [], None, true, ap, ◌∙◌}
use Rattle.std.specs.Prelude.{is_some}
use Rattle.type_rules.specs.Samples.{Sample}
use Rattle.type_rules.specs.Worked.{Passes}
use Rattle.type_rules.proofs.Computing.{first', made', first_is, made_is}

pub passes : (ds : List Sample) → first' ds [] ≡ None → is_some (made' ds []) ≡ true → Passes ds
passes ds e t = (first_is ds [] ∙ e, ap is_some (made_is ds []) ∙ t)
