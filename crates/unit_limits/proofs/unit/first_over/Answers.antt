use Rattle.std.proofs.Common.{ap, ◌∙◌}
use Rattle.std.specs.List.{flat_map}
use Rattle.unit_limits.specs.Counting.{first_told}
use Rattle.unit_limits.specs.Members.{decl_counts}
use Rattle.unit_limits.proofs.Firsts.{found}
use Rattle.unit_limits.proofs.unit.first_over.Goals as goal

pub returns-in-Some : goal.returns-in-Some
returns-in-Some c =
    found decl_counts c.as_slice-decl-items.result.now c.loop-decl.decl-index c.decl-item.result c.in-Some.over c.loop-decl-test.true c.decl-item.is c.in-Some.ensures
    ∙ (c.loop-decl.invariant ∙ ap (λ ds. first_told (flat_map decl_counts ds)) c.as_slice-decl-items.ensures)
