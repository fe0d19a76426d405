use Rattle.std.proofs.Common.{rules}
use Rattle.jp_pred.proofs.Sizes.{sum_step}
use Rattle.jp_pred.proofs.truth.holds_row.Goals as goal

pub loop-term-preserved : goal.loop-term-preserved
loop-term-preserved c = record {
  same = search (rules, sum_step);
  low = search rules;
  high = search rules;
}
