use Rattle.pool_laws.proofs.Fitting.{texts_kept}
use Rattle.pool_laws.proofs.laws.lines_keep_texts.Goals as goal

pub returns : goal.returns
returns c = texts_kept
