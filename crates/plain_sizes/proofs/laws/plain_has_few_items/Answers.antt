use Rattle.plain_sizes.proofs.Plain.{few_items}
use Rattle.plain_sizes.proofs.laws.plain_has_few_items.Goals as goal

pub returns : goal.returns
returns c = few_items
