use Rattle.std.proofs.Common.{◌≡◌, ◌++◌, take}
use Rattle.decl_rules.specs.Standing.{methods_at}
use Rattle.decl_rules.proofs.upwards.add_methods.Given as goal

abbrev pub invariant-loop-method : goal.invariant-loop-method
invariant-loop-method l = methods_at l.all.items ≡ methods_at l.initial.all.items ++ take l.method-index l.methods
