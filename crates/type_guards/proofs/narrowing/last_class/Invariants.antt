use Rattle.std.proofs.Common.{◌≡◌, ◌≤◌, length, take}
use Rattle.type_guards.specs.Tests.{last_class}
use Rattle.type_guards.proofs.narrowing.last_class.Given as goal

abbrev pub decreases-tests : goal.decreases-tests
decreases-tests l = l.left

abbrev pub invariant-tests : goal.invariant-tests
invariant-tests l = record { within : l.left ≤ length l.tests; last : last_class (take l.left l.tests) l.path ≡ last_class l.tests l.path }
