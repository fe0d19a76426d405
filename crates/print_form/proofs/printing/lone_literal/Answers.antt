use Rattle.std.proofs.Common.{ap, subst, sym, ◌∙◌}
use Rattle.std.proofs.lemmas.Result.{MatchResult-from_err}
use Rattle.std.specs.Option.{option_copied}
use Rattle.print_form.specs.Form.{IsLiteral}
use Rattle.print_form.proofs.Lists.{lone, only_item}
use Rattle.print_form.proofs.printing.lone_literal.Goals as goal

pub returns-in_err-literal : goal.returns-in_err-literal
returns-in_err-literal c =
    MatchResult-from_err c.from_residual.result _ _ c.from_residual.ensures.0 (λ _ l a is literal.
    c.in_err-literal.ensures l (subst (IsLiteral l) (sym (only_item c.args.args.now c.argument-item.result a c.argument-item.is is)) literal))

pub returns-in-None : goal.returns-in-None
returns-in-None c = (
  c.argument-item.result,
  lone c.args.args.now c.argument-item.result c.in-len1-up.len_at_least c.argument-item.is (sym (ap option_copied c.in-None.is) ∙ c.first.ensures.value),
  c.in_ok-literal.ensures,
)
