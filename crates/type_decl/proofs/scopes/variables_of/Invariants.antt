use Rattle.std.proofs.Common.{◌≡◌, map, take}
use Rattle.type_decl.specs.Parts.{param_variable}
use Rattle.type_decl.proofs.scopes.variables_of.Given as goal

abbrev pub invariant-loop-param : goal.invariant-loop-param
invariant-loop-param l = l.all ≡ map param_variable (take l.param-index l.params)
