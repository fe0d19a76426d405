use Rattle.std.proofs.Common.{◌≡◌, ◌-◌, ◌^◌, min, sum_by, take}
use Rattle.unit_limits.specs.Locals.{stmt_locals}
use Rattle.unit_limits.proofs.counts.+stmts.Given as goal

-- the count as far as the list has been gone through
abbrev pub invariant-locals_of_all-loop-one : goal.invariant-locals_of_all-loop-one
invariant-locals_of_all-loop-one l = l.total ≡ min (sum_by stmt_locals (take l.one-index l.all)) (2 ^ 64 - 1)
