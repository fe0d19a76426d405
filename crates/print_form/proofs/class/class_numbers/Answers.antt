use Rattle.std.proofs.Common.{subst, sym, ◌∙◌}
use Rattle.print_form.specs.Form.{IsMain, IsClass}
use Rattle.print_form.proofs.Lists.{only_item}
use Rattle.print_form.proofs.Decided.{still_fails}
use Rattle.print_form.proofs.class.class_numbers.Goals as goal

pub returns-in_err-numbers : goal.returns-in_err-numbers
returns-in_err-numbers c =
    still_fails (λ ls. IsMain ls c.method-item.result) (λ ls. IsClass c.args.main.now ls c.args.class.now) c.in_err-numbers.field-0.0 c.from_residual.result c.from_residual.ensures.1
    (λ ls whole. subst (IsMain ls) (sym (only_item c.as_slice.result.now c.method-item.result whole.method c.method-item.is (c.as_slice.ensures ∙ whole.members))) whole.prints)
    c.in_err-numbers.ensures
