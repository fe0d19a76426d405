use Rattle.std.proofs.Common.{ap, subst, sym, ◌∙◌}
use Rattle.std.specs.Prelude.{map}
use Rattle.std.specs.Option.{option_copied}
use Rattle.print_form.specs.Form.{IsClass, IsProgram, value_of}
use Rattle.print_form.proofs.Lists.{lone, only_item}
use Rattle.print_form.proofs.One.{one_unit}
use Rattle.print_form.proofs.Decided.{still_fails}
use Rattle.print_form.proofs.program.print_program.Goals as goal

pub returns-in_err-numbers-clause-decides : goal.returns-in_err-numbers-clause-decides
returns-in_err-numbers-clause-decides c =
    still_fails (λ ls. IsClass c.args.main.now ls c.class-item.result) (λ ls. IsProgram c.args.main.now ls c.args.unit.now) c.in_err-numbers.field-0.0 c.from_residual.result c.from_residual.ensures.1
    (λ ls whole. subst (IsClass c.args.main.now ls) (sym (only_item c.as_slice.result.now c.class-item.result whole.class c.class-item.is (c.as_slice.ensures ∙ whole.decls))) whole.prints)
    c.in_err-numbers.ensures

pub returns-in-None-clause-only : goal.returns-in-None-clause-only
returns-in-None-clause-only c = λ ls program.
    let found = c.in_ok-numbers.ensures in
    let decls = lone c.as_slice.result.now c.class-item.result c.in-len1-up.len_at_least c.class-item.is (sym (ap option_copied c.in-None.is) ∙ c.first.ensures.value) in
    let mine : IsProgram c.args.main.now found.0 c.args.unit.now = record { class = c.class-item.result; decls = sym c.as_slice.ensures ∙ decls; prints = found.1 } in
    found.2 ∙ ap (map value_of) (one_unit c.args.main.now c.args.unit.now found.0 ls mine program)
