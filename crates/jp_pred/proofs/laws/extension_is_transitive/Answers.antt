use Rattle.jp_pred.proofs.Universes.{extends_trans}
use Rattle.jp_pred.proofs.laws.extension_is_transitive.Goals as goal

pub returns : goal.returns
returns c = extends_trans
