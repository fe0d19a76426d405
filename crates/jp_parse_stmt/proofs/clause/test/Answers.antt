use Rattle.std.proofs.lemmas.Result.{err_from_is_err_and}
use Rattle.jp_parse_stmt.proofs.Inits.{test_wrong, test_gets}
use Rattle.jp_parse_stmt.proofs.clause.test.Goals as goal

pub returns-in_err-behind-clause-gives : goal.returns-in_err-behind-clause-gives
returns-in_err-behind-clause-gives c =
    let p = err_from_is_err_and c.from_residual.result c.from_residual.ensures.1 in
    rw (p.1, p.2) (test_wrong c.args.tokens.now c.in_err-behind.field-0.0 c.in_err-behind.ensures.gives)

pub returns-clause-gives : goal.returns-clause-gives
returns-clause-gives c = test_gets c.args.tokens.now c.in_ok-behind.behind.now c.closed_expr.result c.in_ok-behind.ensures.gives c.closed_expr.ensures.gives
