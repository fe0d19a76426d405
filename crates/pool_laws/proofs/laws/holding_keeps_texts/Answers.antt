use Rattle.pool_laws.proofs.Fitting.{held_texts_kept}
use Rattle.pool_laws.proofs.laws.holding_keeps_texts.Goals as goal

pub returns : goal.returns
returns c = held_texts_kept
