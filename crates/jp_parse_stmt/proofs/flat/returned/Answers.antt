use Rattle.std.proofs.Common.{inl, arith}
use Rattle.std.proofs.lemmas.Result.{err_from_is_err_and}
use Rattle.jp_parse_stmt.proofs.StmtEnds.{return_fails, return_gives}
use Rattle.jp_parse_stmt.proofs.flat.returned.Goals as goal

pub returns-in_err-value-clause-gives : goal.returns-in_err-value-clause-gives
returns-in_err-value-clause-gives c =
    let p = err_from_is_err_and c.from_residual.result c.from_residual.ensures.1 in
    λ most room. rw (p.1, p.2) (return_fails c.args.place most room c.args.tokens.now c.in_err-value.field-0.0 c.in_err-value.ensures.gives)

pub returns-in_err-tree-clause-gives : goal.returns-in_err-tree-clause-gives
returns-in_err-tree-clause-gives c =
    let p = err_from_is_err_and c.from_residual-in_err-tree.result c.from_residual-in_err-tree.ensures.1 in
    λ most room. rw (p.1, p.2) (inl c.in_err-tree.ensures)

pub returns-clause-gives : goal.returns-clause-gives
returns-clause-gives c =
    λ most room. return_gives c.args.place most room c.in_ok-value.value c.in_ok-tree.tree c.args.tokens.now c.in_ok-value.rest c.in_ok-value.ensures.gives c.in_ok-value.ensures.rest.0 c.in_ok-tree.ensures
