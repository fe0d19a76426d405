use Rattle.std.proofs.lemmas.Result.{err_from_is_err_and}
use Rattle.jp_parse_stmt.proofs.Inits.{valued_line_fails, valued_line_gets}
use Rattle.jp_parse_stmt.proofs.clause.valued_line.Goals as goal

pub returns-in_err-ty-clause-gives : goal.returns-in_err-ty-clause-gives
returns-in_err-ty-clause-gives c =
    let p = err_from_is_err_and c.from_residual.result c.from_residual.ensures.1 in
    rw (p.1, p.2) (valued_line_fails c.args.tokens.now c.in_err-ty.field-0.0 c.in_err-ty.ensures.gives)

pub returns-clause-gives : goal.returns-clause-gives
returns-clause-gives c =
    valued_line_gets c.front.result.0.now c.front.result.1.now c.args.tokens.now c.in_ok-ty.behind.now (c.in_ok-ty.ty, c.in_ok-ty.name) c.valued.result c.front.ensures.split c.in_ok-ty.ensures.gives.0 c.valued.ensures.gives
