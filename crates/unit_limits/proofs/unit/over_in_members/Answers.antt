use Rattle.std.proofs.Common.{◌∙◌}
use Rattle.unit_limits.specs.Members.{member_counts}
use Rattle.unit_limits.proofs.Firsts.{found}
use Rattle.unit_limits.proofs.unit.over_in_members.Goals as goal

pub returns-in-Some : goal.returns-in-Some
returns-in-Some c =
    found member_counts c.args.members.now c.loop-member.member-index c.member-item.result c.in-Some.over c.loop-member-test.true c.member-item.is c.in-Some.ensures ∙ c.loop-member.invariant
