use Rattle.std.proofs.Common.{◌≡◌, [], take, drop}
use Rattle.type_rules.specs.Table.{faults_of}
use Rattle.type_rules.specs.Typing.{earlier}
use Rattle.type_rules.specs.Units.{param_visits}
use Rattle.decl_rules.proofs.parameters.judge_params.Given as goal

-- with those that are still to come
abbrev pub invariant-loop-i : goal.invariant-loop-i
invariant-loop-i l =
    earlier l.first.fault (faults_of (param_visits (take l.i l.params) (drop l.i l.params))) ≡ earlier l.initial.first.fault (faults_of (param_visits [] l.params))
