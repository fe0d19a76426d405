use Rattle.std.proofs.Common.{◌≡◌, drop, pos, ◌+ℤ◌, ◌≤ℤ◌, ◌*◌, ◌^◌}
use Rattle.jp_pred.specs.Truth.{sum_of, sum_from}
use Rattle.jp_pred.proofs.truth.holds_row.Given as goal

abbrev pub invariant-loop-term : goal.invariant-loop-term
invariant-loop-term l = record {
  same : sum_of l.ints l.row.terms ≡ sum_from l.ints l.total (drop l.term-index l.row.terms);
  low : pos 0 ≤ℤ (l.total +ℤ pos (l.term-index * 2 ^ 94));
  high : l.total ≤ℤ pos (l.term-index * 2 ^ 94);
}
