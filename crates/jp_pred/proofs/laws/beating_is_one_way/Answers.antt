use Rattle.jp_pred.proofs.Selections.{never_both_ways}
use Rattle.jp_pred.proofs.laws.beating_is_one_way.Goals as goal

pub returns : goal.returns
returns c = never_both_ways
