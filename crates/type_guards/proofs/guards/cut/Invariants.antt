use Rattle.std.proofs.Common.{◌≡◌, length, take}
use Rattle.type_guards.proofs.guards.cut.Given as goal

abbrev pub decreases-loop-tests : goal.decreases-loop-tests
decreases-loop-tests l = length l.tests

abbrev pub invariant-loop-tests : goal.invariant-loop-tests
invariant-loop-tests l = take l.mark l.tests ≡ take l.mark l.initial.tests
