use Rattle.plain_laws.proofs.OwnFields.{fields_own}
use Rattle.plain_laws.proofs.laws.typed_fields_are_own.Goals as goal

pub returns : goal.returns
returns c = fields_own
