use Rattle.std.proofs.Common.{◌≡◌, drop}
use Rattle.std.specs.List.{flat_map}
use Rattle.type_rules.specs.ClassNames.{known_names}
use Rattle.own_names.specs.Naming.{first_unknown}
use Rattle.own_names.specs.Units.{member_names}
use Rattle.own_names.proofs.unit.outside_in_members.Given as goal

abbrev pub invariant-loop-member : goal.invariant-loop-member
invariant-loop-member l = first_unknown (known_names l.unit) (flat_map member_names (drop l.member-index l.members)) ≡ first_unknown (known_names l.unit) (flat_map member_names l.members)
