use Rattle.std.proofs.Common.{◌≡◌, ◌-◌, ◌^◌, min, sum_by, take}
use Rattle.jp_ast.specs.Counts.{stmt_nodes}
use Rattle.jp_ast.proofs.counts.+stmts.Given as goal

-- the count as far as the list has been gone through
abbrev pub invariant-all_stmts-loop-one : goal.invariant-all_stmts-loop-one
invariant-all_stmts-loop-one l = l.total ≡ min (sum_by stmt_nodes (take l.one-index l.all)) (2 ^ 64 - 1)
