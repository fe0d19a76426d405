use Rattle.std.proofs.Common.{◌≡◌, [], drop}
use Rattle.std.specs.List.{flat_map}
use Rattle.std.specs.Option.{option_and_then}
use Rattle.type_rules.specs.Guards.{summand_visits, summands_in}
use Rattle.type_rules.specs.Table.{faults_of}
use Rattle.type_rules.specs.Typing.{earlier}
use Rattle.type_guards.proofs.summands.summands.Given as goal

-- with those that are still to come
abbrev pub invariant-loop-one : goal.invariant-loop-one
invariant-loop-one l = record {
  made : option_and_then (λ ts. summands_in l.scope ts (drop l.one-index l.all)) l.done ≡ summands_in l.scope [] l.all;
  first : earlier l.first.fault (faults_of (flat_map (summand_visits l.scope) (drop l.one-index l.all))) ≡ earlier l.initial.first.fault (faults_of (flat_map (summand_visits l.scope) l.all));
}
