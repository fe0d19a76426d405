use Rattle.std.proofs.lemmas.Result.{err_from_is_err_and}
use Rattle.jp_parse_stmt.proofs.StmtTurns.{turns_begun, turns_tested, turns_changed, turns_read}
use Rattle.jp_parse_stmt.proofs.turns.all_turns.Goals as goal

pub returns-in_err-init-clause-gives : goal.returns-in_err-init-clause-gives
returns-in_err-init-clause-gives c =
    let p = err_from_is_err_and c.from_residual.result c.from_residual.ensures.1 in
    rw (p.1, p.2) (turns_begun c.args.tokens.now c.in_err-init.field-0.0 c.in_err-init.ensures.gives)

pub returns-in_err-test-clause-gives : goal.returns-in_err-test-clause-gives
returns-in_err-test-clause-gives c =
    let p = err_from_is_err_and c.from_residual-in_err-test.result c.from_residual-in_err-test.ensures.1 in
    let i = c.in_ok-init.ensures in
    rw (p.1, p.2) (turns_tested c.in_ok-init.init c.args.tokens.now c.in_ok-init.behind.now i.gives.0 i.rest.0 i.gives.1 c.in_err-test.field-0.0 c.in_err-test.ensures.gives)

pub returns-in_err-change-clause-gives : goal.returns-in_err-change-clause-gives
returns-in_err-change-clause-gives c =
    let p = err_from_is_err_and c.from_residual-in_err-change.result c.from_residual-in_err-change.ensures.1 in
    let i = c.in_ok-init.ensures in
    let e = c.in_ok-test.ensures in
    rw (p.1, p.2) (turns_changed c.in_ok-init.init c.args.tokens.now c.in_ok-init.behind.now i.gives.0 i.rest.0 i.gives.1 c.in_ok-test.test c.in_ok-test.later.now c.in_err-change.field-0.0 e.gives.0 e.gives.1 c.in_err-change.ensures.gives)

pub returns-clause-gives : goal.returns-clause-gives
returns-clause-gives c =
    let i = c.in_ok-init.ensures in
    let e = c.in_ok-test.ensures in
    let h = c.in_ok-change.ensures in
    turns_read c.in_ok-init.init c.args.tokens.now c.in_ok-init.behind.now i.gives.0 i.rest.0 i.gives.1 c.in_ok-test.test c.in_ok-change.change c.in_ok-test.later.now c.in_ok-change.rest e.gives.0 e.gives.1 h.gives.0 h.rest.0 h.gives.1
