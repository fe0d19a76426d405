use Rattle.std.proofs.Common.{◌≡◌, drop}
use Rattle.type_rules.specs.Assigning.{some_misfit}
use Rattle.type_heads.proofs.assigning.some_misfit.Given as goal

abbrev pub invariant-loop-i : goal.invariant-loop-i
invariant-loop-i l = some_misfit l.heads (drop l.i l.parts) (drop l.i l.types) ≡ some_misfit l.heads l.parts l.types
