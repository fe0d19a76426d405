use Rattle.std.proofs.Common.{take}
use Rattle.type_decl.specs.Walking.{WalksMembers}
use Rattle.type_decl.proofs.walking.walk_members.Given as goal

-- some members are walked
abbrev pub invariant-loop-member : goal.invariant-loop-member
invariant-loop-member l = WalksMembers l.initial.heads l.decl (take l.member-index l.members) l.initial.first.fault l.first.fault l.heads l.walked.items
