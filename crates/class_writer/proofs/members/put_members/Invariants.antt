use Rattle.std.proofs.Common.{◌≡◌, ◌++◌, take, length}
use Rattle.std.specs.List.{All}
use Rattle.class_form.specs.Layout.{u2, MemberInRange}
use Rattle.class_writer.specs.Written.{written_members}
use Rattle.class_writer.proofs.members.put_members.Given as goal

-- the count and the members so far
abbrev pub invariant-loop-member : goal.invariant-loop-member
invariant-loop-member l = record {
  spelled : l.out.items ≡ (l.fn.out.items ++ u2 (length l.members)) ++ written_members l.code_name (take l.member-index l.members);
  numbers : All MemberInRange (take l.member-index l.members);
}
