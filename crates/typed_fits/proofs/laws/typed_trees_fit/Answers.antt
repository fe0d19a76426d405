use Rattle.typed_fits.proofs.UnitFits.{trees_fit}
use Rattle.typed_fits.proofs.laws.typed_trees_fit.Goals as goal

pub returns : goal.returns
returns c = trees_fit
