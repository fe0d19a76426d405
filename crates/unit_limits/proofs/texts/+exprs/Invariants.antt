use Rattle.std.proofs.Common.{◌≡◌, drop}
use Rattle.std.specs.List.{flat_map}
use Rattle.unit_limits.specs.Counting.{first_told}
use Rattle.unit_limits.specs.Texts.{expr_texts}
use Rattle.unit_limits.proofs.texts.+exprs.Given as goal

abbrev pub invariant-over_in_exprs-loop-one : goal.invariant-over_in_exprs-loop-one
invariant-over_in_exprs-loop-one l = first_told (flat_map expr_texts (drop l.one-index l.all)) ≡ first_told (flat_map expr_texts l.all)
