use Rattle.jvm_load.specs.Tables.{AreTables}
use Rattle.jvm_load.proofs.tables.all_tables.Given as goal

-- the tables so far
abbrev pub invariant-loop-line : goal.invariant-loop-line
invariant-loop-line l = AreTables l.listing l.files l.line-index l.tables.items
