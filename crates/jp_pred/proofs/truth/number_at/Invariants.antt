use Rattle.std.proofs.Common.{◌≡◌, drop}
use Rattle.jp_pred.specs.Truth.{entry_of}
use Rattle.jp_pred.proofs.truth.number_at.Given as goal

abbrev pub invariant-loop-entry : goal.invariant-loop-entry
invariant-loop-entry l = entry_of l.path l.ints ≡ entry_of l.path (drop l.entry-index l.ints)
