use Rattle.typed_fits.proofs.ReadNames.{names_plain}
use Rattle.typed_fits.proofs.laws.read_names_are_plain.Goals as goal

pub returns : goal.returns
returns c = names_plain
