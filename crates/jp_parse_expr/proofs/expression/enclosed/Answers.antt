use Rattle.std.proofs.Common.{◌≡◌, ℕ, ◌≤◌, List, sym, ap, ◌∙◌, subst, rules, arith}
use Rattle.std.proofs.lemmas.Result.{err_from_is_err_and}
use Rattle.jp_parse_expr.proofs.Postfixes.{enclosed_fails, enclosed_wrong, enclosed_gives}
use Rattle.jp_parse_expr.proofs.expression.enclosed.Goals as goal

pub returns-in_err-inner-clause-gives : goal.returns-in_err-inner-clause-gives
returns-in_err-inner-clause-gives c =
    let p = err_from_is_err_and c.from_residual.result c.from_residual.ensures.1 in
    rw (p.1, p.2) (enclosed_fails c.args.most c.args.first.now c.args.rest.now c.requires.sign c.in_err-inner.field-0.0 c.in_err-inner.ensures.gives)

pub returns-in_err-behind-clause-gives : goal.returns-in_err-behind-clause-gives
returns-in_err-behind-clause-gives c =
    let p = err_from_is_err_and c.from_residual-in_err-behind.result c.from_residual-in_err-behind.ensures.1 in
    let g = c.in_ok-inner.ensures.gives in
    rw (p.1, p.2) (enclosed_wrong c.args.most c.args.first.now c.args.rest.now c.requires.sign c.in_ok-inner.inner c.in_ok-inner.behind.now c.in_err-behind.field-0.0 g.0 (omega (arith, g.1, g.2)) c.in_err-behind.ensures.gives)

pub returns-clause-gives : goal.returns-clause-gives
returns-clause-gives c =
    let g = c.in_ok-inner.ensures.gives in
    enclosed_gives c.args.most c.args.first.now c.args.rest.now c.requires.sign c.in_ok-inner.inner c.in_ok-inner.depth c.in_ok-inner.behind.now c.in_ok-behind.behind c.steps.result g.0 g.1 g.2 c.in_ok-behind.ensures.gives c.steps.ensures.gives
