use Rattle.std.proofs.Common.{take}
use Rattle.type_expr.specs.Settling.{SeesAll}
use Rattle.type_expr.proofs.expressions.+see.Given as goal

-- what is seen so far
abbrev pub invariant-see_all-loop-one : goal.invariant-see_all-loop-one
invariant-see_all-loop-one l = SeesAll l.scope l.role (take l.one-index l.all) l.initial.first.fault l.first.fault l.found.items
