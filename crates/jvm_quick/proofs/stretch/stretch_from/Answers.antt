use Rattle.std.proofs.Common.{◌≡◌, Some, refl, sym, ap, ◌∙◌}
use Rattle.std.specs.Prelude.{slice_get, option_and_then}
use Rattle.std.specs.Option.{option_map}
use Rattle.std.proofs.lemmas.Option.{option_and_then_some}
use Rattle.jvm_quick.proofs.Walked.{gone_zero, stretch_leads}
use Rattle.jvm_quick.proofs.stretch.stretch_from.Goals as goal

pub returns-in-Some-clause-leads : goal.returns-in-Some-clause-leads
returns-in-Some-clause-leads c = λ files d.
    let st = c.args.state.now in
    let rows = c.in-Some.rows.now in
    let r = c.run_stretch.result in
    option_and_then_some (λ lists. slice_get lists st.current.method) (slice_get c.args.decoded.now st.current.file) rows (sym c.rows.ensures ∙ ap (option_map (λ x. x.now)) c.in-Some.is)
    (λ lists at there.
    let file = d st.current.file lists at in
    let method = file.2 st.current.method rows there in
    stretch_leads files st file.0 method.0 r.count r.end c.run_stretch.new.frame file.1 method.1 (c.run_stretch.ensures.stretch file.0 method.0 method.2))

pub returns-in-None-clause-leads : goal.returns-in-None-clause-leads
returns-in-None-clause-leads c = λ files d. (c.args.state.now, gone_zero files c.args.state.now, refl)
