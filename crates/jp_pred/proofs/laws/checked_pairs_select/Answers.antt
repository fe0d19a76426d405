use Rattle.jp_pred.proofs.Checked.{checked_select}
use Rattle.jp_pred.proofs.laws.checked_pairs_select.Goals as goal

pub returns : goal.returns
returns c = checked_select
