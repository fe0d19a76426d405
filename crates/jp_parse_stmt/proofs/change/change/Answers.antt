use Rattle.std.proofs.lemmas.Result.{err_from_is_err_and}
use Rattle.jp_parse_stmt.proofs.Changes.{change_fails, change_gets}
use Rattle.jp_parse_stmt.proofs.change.change.Goals as goal

pub returns-in_err-left-clause-gives : goal.returns-in_err-left-clause-gives
returns-in_err-left-clause-gives c =
    let p = err_from_is_err_and c.from_residual.result c.from_residual.ensures.1 in
    rw (p.1, p.2) (change_fails c.args.tokens.now c.in_err-left.field-0.0 c.in_err-left.ensures.gives)

pub returns-clause-gives : goal.returns-clause-gives
returns-clause-gives c =
    change_gets c.front.result.0.now c.front.result.1.now c.args.tokens.now c.in_ok-left.behind.now c.in_ok-left.left c.changed.result c.front.ensures.split c.in_ok-left.ensures.gives.0 c.changed.ensures.gives
