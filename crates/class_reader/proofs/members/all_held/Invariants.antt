use Rattle.std.proofs.Common.{◌≡◌, ◌-◌}
use Rattle.class_reader.specs.Reading.{all_held_at, nothing_held}
use Rattle.class_reader.proofs.members.all_held.Given as goal

-- the attributes so far, and what is left to read
abbrev pub invariant-loop : goal.invariant-loop
invariant-loop l = all_held_at l.constants l.held (l.count - l.counter) l.rest ≡ all_held_at l.constants nothing_held l.count l.bytes
