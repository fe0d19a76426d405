use Rattle.std.proofs.lemmas.Result.{err_from_is_err_and}
use Rattle.jp_parse_stmt.proofs.StmtTurns.{open_wrong, open_gets}
use Rattle.jp_parse_stmt.proofs.turns.turns.Goals as goal

pub returns-in_err-behind-clause-gives : goal.returns-in_err-behind-clause-gives
returns-in_err-behind-clause-gives c =
    let p = err_from_is_err_and c.from_residual.result c.from_residual.ensures.1 in
    rw (p.1, p.2) (open_wrong c.args.tokens.now c.in_err-behind.field-0.0 c.in_err-behind.ensures.gives)

pub returns-clause-gives : goal.returns-clause-gives
returns-clause-gives c = open_gets c.args.tokens.now c.in_ok-behind.behind.now c.all_turns.result c.in_ok-behind.ensures.gives c.all_turns.ensures.gives
