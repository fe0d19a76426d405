use Rattle.std.proofs.Common.{◌≡◌, ◌-◌, ◌^◌, min, sum_by, take}
use Rattle.jp_ast.specs.Counts.{expr_nodes}
use Rattle.unit_limits.proofs.counts.nodes_of_all.Given as goal

-- the count as far as the list has been gone through
abbrev pub invariant-loop-one : goal.invariant-loop-one
invariant-loop-one l = l.total ≡ min (sum_by expr_nodes (take l.one-index l.all)) (2 ^ 64 - 1)
