use Rattle.std.proofs.lemmas.Result.{err_from_is_err_and}
use Rattle.jp_parse_stmt.proofs.Changes.{right_fails, right_gets}
use Rattle.jp_parse_stmt.proofs.change.assigned.Goals as goal

pub returns-in_err-right-clause-gives : goal.returns-in_err-right-clause-gives
returns-in_err-right-clause-gives c =
    let p = err_from_is_err_and c.from_residual.result c.from_residual.ensures.1 in
    rw (p.1, p.2) (right_fails c.args.place c.args.left c.args.sign c.requires.small c.args.tokens.now c.in_err-right.field-0.0 c.in_err-right.ensures.gives)

pub returns-clause-gives : goal.returns-clause-gives
returns-clause-gives c =
    let g = c.in_ok-right.ensures.gives in
    right_gets c.args.place c.args.left c.args.sign c.requires.small c.in_ok-node.field-0 c.args.tokens.now c.in_ok-right.right c.in_ok-right.behind g.0 g.1 c.in_ok-node.ensures
