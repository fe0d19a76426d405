use Rattle.std.proofs.Common.{◌≡◌, drop}
use Rattle.std.specs.List.{flat_map}
use Rattle.unit_limits.specs.Counting.{first_told}
use Rattle.unit_limits.specs.Members.{decl_counts}
use Rattle.unit_limits.proofs.unit.first_over.Given as goal

abbrev pub invariant-loop-decl : goal.invariant-loop-decl
invariant-loop-decl l = first_told (flat_map decl_counts (drop l.decl-index l.decl-items)) ≡ first_told (flat_map decl_counts l.decl-items)
