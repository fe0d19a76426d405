use Rattle.std.proofs.Common.{◌≡◌, ◌-◌, ◌^◌, min, sum_by, take}
use Rattle.unit_limits.specs.Members.{member_nodes}
use Rattle.unit_limits.proofs.unit.nodes_of_members.Given as goal

-- the count as far as the list has been gone through
abbrev pub invariant-loop-member : goal.invariant-loop-member
invariant-loop-member l = l.total ≡ min (sum_by member_nodes (take l.member-index l.members)) (2 ^ 64 - 1)
