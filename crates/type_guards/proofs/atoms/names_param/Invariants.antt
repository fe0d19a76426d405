use Rattle.std.proofs.Common.{◌≡◌, drop}
use Rattle.type_rules.specs.Types.{is_among}
use Rattle.type_rules.specs.Names.{names_of}
use Rattle.type_guards.proofs.atoms.names_param.Given as goal

abbrev pub invariant-loop-param : goal.invariant-loop-param
invariant-loop-param l = is_among l.name (names_of l.scope.params) ≡ is_among l.name (names_of (drop l.param-index l.scope.params))
