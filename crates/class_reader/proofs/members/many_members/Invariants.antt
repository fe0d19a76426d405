use Rattle.std.proofs.Common.{◌≡◌, ◌-◌}
use Rattle.class_reader.specs.Reading.{member_at}
use Rattle.class_reader.specs.Fields.{many_at}
use Rattle.class_reader.proofs.Loop.{with_front}
use Rattle.class_reader.proofs.members.many_members.Given as goal

-- the items so far, and what is left to read
abbrev pub invariant-loop : goal.invariant-loop
invariant-loop l = with_front l.members (many_at (member_at l.constants) (l.count - l.counter) l.rest) ≡ many_at (member_at l.constants) l.count l.bytes
