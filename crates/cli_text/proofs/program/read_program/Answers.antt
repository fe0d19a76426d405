use Rattle.std.proofs.Common.{subst}
use Rattle.std.specs.Prelude.{Ok, Err}
use Rattle.std.proofs.lemmas.Result.{err_from_is_err_and}
use Rattle.print_form.specs.Form.{IsProgram}
use Rattle.print_form.specs.Deciding.{Decides}
use Rattle.cli_text.proofs.Texts.{unread, no_program, a_program}
use Rattle.cli_text.proofs.program.read_program.Goals as goal

pub returns-in_err-unit : goal.returns-in_err-unit
returns-in_err-unit c =
    let p = err_from_is_err_and c.from_residual.result c.from_residual.ensures.1 in
    rw (p.1, p.2) (unread c.args.main.now c.args.text.now c.in_err-unit.field-0.0 c.in_err-unit.ensures)

pub returns-in_err-print_program : goal.returns-in_err-print_program
returns-in_err-print_program c =
    let p = err_from_is_err_and c.from_residual-in_err-print_program.result c.from_residual-in_err-print_program.ensures.1 in
    rw (p.1, p.2) (no_program c.args.main.now c.args.text.now c.in_ok-unit.unit c.in_err-print_program.field-0.0 c.in_ok-unit.ensures
    (subst (λ m. Decides (λ literals. IsProgram m literals c.in_ok-unit.unit) (Err c.in_err-print_program.field-0.0)) c.as_bytes.ensures.value c.in_err-print_program.ensures.decides))

pub returns : goal.returns
returns c =
    a_program c.args.main.now c.args.text.now c.in_ok-unit.unit c.in_ok-print_program.field-0 c.in_ok-unit.ensures
    (subst (λ m. Decides (λ literals. IsProgram m literals c.in_ok-unit.unit) (Ok c.in_ok-print_program.field-0)) c.as_bytes.ensures.value c.in_ok-print_program.ensures.decides)
