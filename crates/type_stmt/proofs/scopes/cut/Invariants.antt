use Rattle.std.proofs.Common.{◌≡◌, length, take}
use Rattle.type_stmt.proofs.scopes.cut.Given as goal

abbrev pub decreases-loop-variables : goal.decreases-loop-variables
decreases-loop-variables l = length l.variables

abbrev pub invariant-loop-variables : goal.invariant-loop-variables
invariant-loop-variables l = take l.mark l.variables ≡ take l.mark l.initial.variables
