use Rattle.std.proofs.Common.{◌≡◌, take}
use Rattle.gen_parts.specs.Emits.{Puts, all_part}
use Rattle.gen_expr.proofs.expr.+expr.Given as goal

-- what is written so far
abbrev pub invariant-put_all-loop-one : goal.invariant-put_all-loop-one
invariant-put_all-loop-one l = (l.below ≡ l.one-index) × Puts l.fn.code l.code l.need (all_part (take l.one-index l.args) l.fn.code.labels)
