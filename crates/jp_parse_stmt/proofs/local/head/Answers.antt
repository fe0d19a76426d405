use Rattle.std.proofs.lemmas.Result.{err_from_is_err_and}
use Rattle.jp_parse_stmt.proofs.LocalLines.{head_fails, head_wrong, head_gets}
use Rattle.jp_parse_stmt.proofs.local.head.Goals as goal

pub returns-in_err-ty-clause-gives : goal.returns-in_err-ty-clause-gives
returns-in_err-ty-clause-gives c =
    let p = err_from_is_err_and c.from_residual.result c.from_residual.ensures.1 in
    rw (p.1, p.2) (head_fails c.args.tokens.now c.in_err-ty.field-0.0 c.in_err-ty.ensures.gives)

pub returns-in_err-name-clause-gives : goal.returns-in_err-name-clause-gives
returns-in_err-name-clause-gives c =
    let p = err_from_is_err_and c.from_residual-in_err-name.result c.from_residual-in_err-name.ensures.1 in
    rw (p.1, p.2) (head_wrong c.args.tokens.now c.in_ok-ty.behind.now c.front.result.1.now c.front.result.0.now c.in_ok-ty.ty c.in_err-name.field-0.0 c.front.ensures.split c.in_ok-ty.ensures.gives c.in_err-name.ensures)

pub returns-clause-gives : goal.returns-clause-gives
returns-clause-gives c =
    head_gets c.args.tokens.now c.in_ok-ty.behind.now c.front.result.1 c.front.result.0.now c.in_ok-ty.ty c.in_ok-name.name c.front.ensures.split c.in_ok-ty.ensures.gives c.in_ok-name.ensures
