use Rattle.std.proofs.Common.{◌≡◌, ◌+◌, drop}
use Rattle.type_rules.specs.Names.{variable_from}
use Rattle.type_heads.proofs.names.variable_from.Given as goal

abbrev pub invariant-loop-i : goal.invariant-loop-i
invariant-loop-i l = variable_from (l.begin + l.i) l.name (drop l.i l.variables) ≡ variable_from l.begin l.name l.variables
