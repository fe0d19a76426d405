use Rattle.std.proofs.Common.{◌≡◌, drop}
use Rattle.std.specs.List.{flat_map}
use Rattle.unit_limits.specs.Counting.{first_told}
use Rattle.unit_limits.specs.Texts.{stmt_texts}
use Rattle.unit_limits.proofs.texts.+stmts.Given as goal

abbrev pub invariant-over_in_stmts-loop-one : goal.invariant-over_in_stmts-loop-one
invariant-over_in_stmts-loop-one l = first_told (flat_map stmt_texts (drop l.one-index l.all)) ≡ first_told (flat_map stmt_texts l.all)
