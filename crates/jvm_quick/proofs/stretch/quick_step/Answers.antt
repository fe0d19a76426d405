use Rattle.std.proofs.Common.{◌≡◌, Some, None, sym, ap, ◌∙◌, refl}
use Rattle.std.specs.Option.{option_map}
use Rattle.jvm_table.specs.Act.{act, acts}
use Rattle.jvm_quick.specs.Stretches.{went_act}
use Rattle.jvm_quick.proofs.Moving.{no_row_there, row_there, says_same}
use Rattle.jvm_quick.proofs.stretch.quick_step.Goals as goal

pub returns-in_default : goal.returns-in_default
returns-in_default c = λ file method h.
    (no_row_there file method c.args.rows.now c.args.frame.now h (sym c.at.ensures ∙ ap (option_map (λ row. row.now)) c.in_default.is), refl)

pub returns-in-Some-quick : goal.returns-in-Some-quick
returns-in-Some-quick c = λ file method h.
    let old = c.args.frame.now in
    let row = c.in-Some.row.now in
    let there = row_there file method c.args.rows.now old row h (sym c.at.ensures ∙ ap (option_map (λ row. row.now)) c.in-Some.is) in
    says_same c.answer.result old c.answer.new.frame (went_act c.in-Some-quick.went c.quick.new.frame) (acts file method old)
    (c.in-Some-quick.ensures file method ∙ there)
    (c.answer.ensures old refl)
