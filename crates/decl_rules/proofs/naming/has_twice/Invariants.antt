use Rattle.std.proofs.Common.{◌≡◌, drop}
use Rattle.type_rules.specs.RulesOfDeclarations.{has_twice}
use Rattle.decl_rules.proofs.naming.has_twice.Given as goal

abbrev pub invariant-loop-i : goal.invariant-loop-i
invariant-loop-i l = has_twice (drop l.i l.names) ≡ has_twice l.names
