use Rattle.std.proofs.Common.{drop}
use Rattle.type_stmt.proofs.Lines.{Along}
use Rattle.type_stmt.proofs.statements.+walk.Given as goal

-- some statements are walked
abbrev pub invariant-walk_all-loop-stmt : goal.invariant-walk_all-loop-stmt
invariant-walk_all-loop-stmt l = Along l.initial.scope l.scope l.block (drop l.stmt-index l.block) l.initial.first.fault l.first.fault l.done
