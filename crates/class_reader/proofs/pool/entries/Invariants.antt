use Rattle.std.proofs.Common.{◌≡◌, ◌-◌, true}
use Rattle.class_reader.specs.Reading.{entries_at}
use Rattle.class_reader.proofs.Loop.{with_front}
use Rattle.class_reader.proofs.pool.entries.Given as goal

-- the entries so far, and what is left to read
abbrev pub invariant-loop-i : goal.invariant-loop-i
invariant-loop-i l = with_front l.constants (entries_at l.behind (l.count - l.i) l.rest) ≡ entries_at true l.count l.bytes
