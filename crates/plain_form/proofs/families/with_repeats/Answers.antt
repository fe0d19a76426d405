use Rattle.std.proofs.Common.{◌≡◌, ◌+◌, drop, ap, ◌∙◌}
use Rattle.std.proofs.lemmas.List.{take_rest}
use Rattle.plain_form.specs.Places.{earlier}
use Rattle.plain_form.specs.Families.{repeats_of}
use Rattle.plain_form.proofs.Earliest.{one_first}
use Rattle.plain_form.proofs.families.with_repeats.Goals as goal

pub loop-i-preserved : goal.loop-i-preserved
loop-i-preserved c =
    let members = c.args.members.now in
    let i = c.loop-i.i in
    let member = c.index-members-i.result in
    let here : c.with_repeats_of-best.result ≡ earlier c.loop-i.best (repeats_of member (drop (i + 1) members)) =
    c.with_repeats_of-best.ensures ∙ ap (λ behind. earlier c.loop-i.best (repeats_of member behind)) (take_rest members (i + 1)) in
    one_first members i member c.loop-i.best c.with_repeats_of-best.result c.loop-i-test.true c.index-members-i.is here ∙ c.loop-i.invariant
