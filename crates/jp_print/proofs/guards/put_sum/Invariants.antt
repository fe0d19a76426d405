use Rattle.std.proofs.Common.{◌≡◌, ◌++◌, take}
use Rattle.jp_print.specs.Layout.{laid_out}
use Rattle.jp_print.specs.Guards.{sum_tokens}
use Rattle.jp_print.proofs.guards.put_sum.Given as goal

-- the summands so far
abbrev pub invariant-loop-place : goal.invariant-loop-place
invariant-loop-place l = l.out.items ≡ l.initial.out.items ++ laid_out (sum_tokens (take l.place l.sum))
