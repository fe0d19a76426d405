use Rattle.std.proofs.Common.{◌∙◌}
use Rattle.type_rules.specs.ClassNames.{known_names}
use Rattle.own_names.specs.Units.{member_names}
use Rattle.own_names.proofs.Firsts.{found}
use Rattle.own_names.proofs.unit.outside_in_members.Goals as goal

pub returns-in-Some : goal.returns-in-Some
returns-in-Some c =
    found (known_names c.args.unit.now) member_names c.args.members.now c.loop-member.member-index c.member-item.result c.in-Some.first c.loop-member-test.true c.member-item.is c.in-Some.ensures ∙ c.loop-member.invariant
