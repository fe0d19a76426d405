use Rattle.jp_pred.proofs.Universes.{below_kept}
use Rattle.jp_pred.proofs.laws.below_is_kept.Goals as goal

pub returns : goal.returns
returns c = below_kept
