use Rattle.std.proofs.Common.{◌≡◌, ◌++◌, take}
use Rattle.jvm_load.specs.Tables.{keys_at, entries_from}
use Rattle.jvm_load.proofs.tables.push_entries.Given as goal

-- the entries so far
abbrev pub invariant-loop-member : goal.invariant-loop-member
invariant-loop-member l = l.entries.items ≡ l.initial.entries.items ++ entries_from l.at 0 (take l.member (keys_at l.fn.listing l.files l.at))
