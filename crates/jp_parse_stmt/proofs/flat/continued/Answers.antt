use Rattle.std.proofs.Common.{inl, inr, refl, arith}
use Rattle.std.proofs.lemmas.Result.{err_from_is_err_and}
use Rattle.jp_ast.specs.declared.stmt.StmtKind.TheVariants as made
use Rattle.jp_parse_stmt.proofs.StmtEnds.{ended_wrong, ended_gives}
use Rattle.jp_parse_stmt.proofs.flat.continued.Goals as goal

pub returns-in_err-rest-clause-gives : goal.returns-in_err-rest-clause-gives
returns-in_err-rest-clause-gives c =
    let p = err_from_is_err_and c.from_residual.result c.from_residual.ensures.1 in
    λ most room. rw (p.1, p.2) (ended_wrong c.args.place made.Continue (inr refl) most room c.args.tokens.now c.in_err-rest.field-0.0 c.in_err-rest.ensures.gives)

pub returns-in_err-tree-clause-gives : goal.returns-in_err-tree-clause-gives
returns-in_err-tree-clause-gives c =
    let p = err_from_is_err_and c.from_residual-in_err-tree.result c.from_residual-in_err-tree.ensures.1 in
    λ most room. rw (p.1, p.2) (inl c.in_err-tree.ensures)

pub returns-clause-gives : goal.returns-clause-gives
returns-clause-gives c =
    λ most room. ended_gives c.args.place made.Continue (inr refl) most room c.in_ok-tree.tree c.args.tokens.now c.in_ok-rest.rest c.in_ok-rest.ensures.gives c.in_ok-rest.ensures.rest.0 c.in_ok-tree.ensures
