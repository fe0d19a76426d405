use Rattle.std.proofs.Common.{take}
use Rattle.jvm_load.specs.Tables.{key_of, key_cmp, first_with, IsTable}
use Rattle.jvm_load.proofs.tables.sort_entries.Given as goal

-- a table of the entries so far
abbrev pub invariant-loop-entry : goal.invariant-loop-entry
invariant-loop-entry l = IsTable key_cmp (key_of l.listing l.files) (first_with (key_of l.listing l.files) (take l.entry-index l.entries)) l.table.items
