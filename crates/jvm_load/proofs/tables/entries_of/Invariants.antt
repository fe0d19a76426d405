use Rattle.std.proofs.Common.{◌≡◌, take}
use Rattle.std.specs.List.{flat_map}
use Rattle.jvm_load.specs.Tables.{entries_at}
use Rattle.jvm_load.proofs.tables.entries_of.Given as goal

-- the entries of the files so far
abbrev pub invariant-loop-at : goal.invariant-loop-at
invariant-loop-at l = l.entries.items ≡ flat_map (entries_at l.listing l.files) (take l.at-index l.line)
