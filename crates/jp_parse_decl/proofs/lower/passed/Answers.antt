use Rattle.std.proofs.lemmas.Result.{err_from_is_err_and}
use Rattle.jp_parse_decl.proofs.LowerFacts.{passed_args_fails, passed_end_fails, passed_found}
use Rattle.jp_parse_decl.proofs.lower.passed.Goals as goal

pub returns-in_err-args-clause-gives : goal.returns-in_err-args-clause-gives
returns-in_err-args-clause-gives c =
    let p = err_from_is_err_and c.from_residual.result c.from_residual.ensures.1 in
    rw (p.1, p.2) (passed_args_fails c.args.tokens.now c.in_err-args.field-0.0 c.in_err-args.ensures.gives)

pub returns-in_err-rest-clause-gives : goal.returns-in_err-rest-clause-gives
returns-in_err-rest-clause-gives c =
    let p = err_from_is_err_and c.from_residual-in_err-rest.result c.from_residual-in_err-rest.ensures.1 in
    rw (p.1, p.2) (passed_end_fails c.args.tokens.now c.in_ok-args.behind.now c.in_ok-args.args c.in_ok-args.ensures.gives.0 c.in_ok-args.ensures.gives.1 c.in_err-rest.field-0.0 c.in_err-rest.ensures.gives)

pub returns-clause-gives : goal.returns-clause-gives
returns-clause-gives c =
    passed_found c.args.tokens.now c.in_ok-args.behind.now c.in_ok-args.args c.in_ok-args.ensures.gives.0 c.in_ok-args.ensures.gives.1 c.in_ok-rest.rest c.in_ok-rest.ensures.gives
