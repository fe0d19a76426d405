use Rattle.std.proofs.Common.{sym, ◌∙◌, true≢false}
use Rattle.std.proofs.lemmas.Result.{err_from_is_err_and}
use Rattle.class_form.specs.WellFormed.{WellFormed}
use Rattle.gen_class.proofs.Refused.{no_methods, ill_formed}
use Rattle.gen_class.proofs.class.class_file.Goals as goal

pub returns-in_err-file-clause-refused : goal.returns-in_err-file-clause-refused
returns-in_err-file-clause-refused c =
    let p = err_from_is_err_and c.from_residual.result c.from_residual.ensures.1 in
    rw (p.1, p.2) (no_methods c.args.hier.now c.args.class.now c.in_err-file.field-0.0 c.in_err-file.ensures.refused)

pub returns-else-well_formed-clause-refused : goal.returns-else-well_formed-clause-refused
returns-else-well_formed-clause-refused c =
    ill_formed c.args.hier.now c.args.class.now (WellFormed c.in_ok-file.file) c.in_ok-file.ensures.fit
    (λ (w : WellFormed c.in_ok-file.file). true≢false (sym (c.well_formed-2.ensures.1 w) ∙ c.if-well_formed.false))
