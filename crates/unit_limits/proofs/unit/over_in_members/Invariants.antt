use Rattle.std.proofs.Common.{◌≡◌, drop}
use Rattle.std.specs.List.{flat_map}
use Rattle.unit_limits.specs.Counting.{first_told}
use Rattle.unit_limits.specs.Members.{member_counts}
use Rattle.unit_limits.proofs.unit.over_in_members.Given as goal

abbrev pub invariant-loop-member : goal.invariant-loop-member
invariant-loop-member l = first_told (flat_map member_counts (drop l.member-index l.members)) ≡ first_told (flat_map member_counts l.members)
