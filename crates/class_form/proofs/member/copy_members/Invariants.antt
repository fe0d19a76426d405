use Rattle.std.proofs.Common.{◌≡◌, take}
use Rattle.class_form.proofs.member.copy_members.Given as goal

-- the copies so far
abbrev pub invariant-loop-member : goal.invariant-loop-member
invariant-loop-member l = l.copies ≡ take l.member-index l.members
