use Rattle.jp_pred.proofs.Selections.{one_selected}
use Rattle.jp_pred.proofs.laws.one_body_is_selected.Goals as goal

pub returns : goal.returns
returns c = one_selected
