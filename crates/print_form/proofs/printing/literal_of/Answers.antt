use Rattle.std.proofs.Common.{◌≤◌, subst}
use Rattle.std.proofs.lemmas.Result.{MatchResult-from_err}
use Rattle.std.proofs.lemmas.Bool.{both_ways}
use Rattle.print_form.specs.declared.literal.Literal.{Literal}
use Rattle.print_form.specs.Form.{most}
use Rattle.print_form.proofs.One.{one_written}
use Rattle.print_form.proofs.printing.literal_of.Goals as goal

pub returns-in_err-literal : goal.returns-in_err-literal
returns-in_err-literal c = MatchResult-from_err c.from_residual.result _ _ c.from_residual.ensures.0 (λ _ l is. c.in_err-literal.ensures l is.written)

pub returns-else-fits : goal.returns-else-fits
returns-else-fits c = λ l is.
    let same = one_written l c.in_ok-literal.literal c.args.argument.now is.written c.in_ok-literal.ensures in
    both_ways c.fits.result c.if-fits.false (c.fits.ensures.1 (subst (λ (x : Literal). x.size ≤ most x) same is.fits))
