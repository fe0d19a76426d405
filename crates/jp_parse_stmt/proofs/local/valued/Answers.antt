use Rattle.std.proofs.lemmas.Result.{err_from_is_err_and}
use Rattle.jp_parse_stmt.proofs.LocalLines.{valued_wrong, valued_fails, valued_gets}
use Rattle.jp_parse_stmt.proofs.local.valued.Goals as goal

pub returns-in_err-behind-clause-gives : goal.returns-in_err-behind-clause-gives
returns-in_err-behind-clause-gives c =
    let p = err_from_is_err_and c.from_residual.result c.from_residual.ensures.1 in
    rw (p.1, p.2) (valued_wrong c.args.place (c.args.ty, c.args.name) c.args.tokens.now c.in_err-behind.field-0.0 c.in_err-behind.ensures.gives)

pub returns-in_err-value-clause-gives : goal.returns-in_err-value-clause-gives
returns-in_err-value-clause-gives c =
    let p = err_from_is_err_and c.from_residual-in_err-value.result c.from_residual-in_err-value.ensures.1 in
    rw (p.1, p.2) (valued_fails c.args.place (c.args.ty, c.args.name) c.args.tokens.now c.in_ok-behind.behind.now c.in_err-value.field-0.0 c.in_ok-behind.ensures.gives c.in_err-value.ensures.gives)

pub returns-clause-gives : goal.returns-clause-gives
returns-clause-gives c =
    valued_gets c.args.place (c.args.ty, c.args.name) c.args.tokens.now c.in_ok-behind.behind.now c.in_ok-value.value c.in_ok-tree.tree c.in_ok-value.rest c.in_ok-behind.ensures.gives c.in_ok-value.ensures.gives c.in_ok-tree.ensures
