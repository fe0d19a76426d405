use Rattle.std.proofs.Common.{◌≡◌, drop}
use Rattle.type_rules.specs.ClassNames.{known_names}
use Rattle.own_names.specs.Naming.{first_unknown}
use Rattle.own_names.specs.Units.{param_names}
use Rattle.own_names.proofs.members.outside_in_params.Given as goal

abbrev pub invariant-loop-param : goal.invariant-loop-param
invariant-loop-param l = first_unknown (known_names l.unit) (param_names l.place (drop l.param-index l.params)) ≡ first_unknown (known_names l.unit) (param_names l.place l.params)
