use Rattle.std.proofs.Common.{◌≡◌, drop}
use Rattle.type_rules.specs.Types.{is_among}
use Rattle.type_rules.specs.Names.{names_of}
use Rattle.type_stmt.proofs.judging.is_taken.Given as goal

abbrev pub invariant-loop-variable : goal.invariant-loop-variable
invariant-loop-variable l = is_among l.name (names_of l.variables) ≡ is_among l.name (names_of (drop l.variable-index l.variables))
