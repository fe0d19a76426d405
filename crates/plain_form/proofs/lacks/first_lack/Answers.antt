use Rattle.std.proofs.Common.{None, ap, ◌∙◌}
use Rattle.std.specs.List.{flat_map}
use Rattle.plain_form.specs.Places.{earlier}
use Rattle.plain_form.specs.Forms.{decl_lacks, lacks}
use Rattle.plain_form.proofs.Least.{is_first}
use Rattle.plain_form.proofs.Plain.{plain_both_ways}
use Rattle.plain_form.proofs.lacks.first_lack.Goals as goal

pub returns-clause-form : goal.returns-clause-form
returns-clause-form c =
    plain_both_ways c.args.unit.now c.with_lacks.result (c.with_lacks.ensures ∙ ap (λ ds. earlier None (flat_map decl_lacks ds)) c.as_slice.ensures)

pub returns-clause-least : goal.returns-clause-least
returns-clause-least c =
    is_first (lacks c.args.unit.now) c.with_lacks.result (c.with_lacks.ensures ∙ ap (λ ds. earlier None (flat_map decl_lacks ds)) c.as_slice.ensures)
