use Rattle.std.proofs.Common.{◌≡◌, drop}
use Rattle.type_rules.specs.RulesOfDeclarations.{some_pair}
use Rattle.decl_rules.specs.Clashes.{clash_of}
use Rattle.decl_rules.specs.Standing.{methods_at}
use Rattle.decl_rules.proofs.clashes.some_pair.Given as goal

abbrev pub invariant-loop-i : goal.invariant-loop-i
invariant-loop-i l = some_pair (clash_of l.clash) (methods_at (drop l.i l.methods)) ≡ some_pair (clash_of l.clash) (methods_at l.methods)
