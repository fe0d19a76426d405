use Rattle.std.proofs.lemmas.Result.{err_from_is_err_and}
use Rattle.jp_parse_decl.proofs.ConstructorFacts.{maker_name_fails, maker_params_fails, maker_brace_fails, maker_body_fails, maker_found}
use Rattle.jp_parse_decl.proofs.body.constructor.Goals as goal

pub returns-in_err-label-clause-gives : goal.returns-in_err-label-clause-gives
returns-in_err-label-clause-gives c =
    let p = err_from_is_err_and c.from_residual.result c.from_residual.ensures.1 in
    rw (p.1, p.2) (maker_name_fails c.args.is_private c.args.tokens.now c.in_err-label.field-0.0 c.in_err-label.ensures.gives)

pub returns-in_err-params-clause-gives : goal.returns-in_err-params-clause-gives
returns-in_err-params-clause-gives c =
    let p = err_from_is_err_and c.from_residual-in_err-params.result c.from_residual-in_err-params.ensures.1 in
    rw (p.1, p.2) (maker_params_fails c.args.is_private c.args.tokens.now c.in_ok-label.rest.now c.in_ok-label.label c.in_ok-label.ensures.gives.0 c.in_err-params.field-0.0 c.in_err-params.ensures.gives)

pub returns-in_err-rest-clause-gives : goal.returns-in_err-rest-clause-gives
returns-in_err-rest-clause-gives c =
    let p = err_from_is_err_and c.from_residual-in_err-rest.result c.from_residual-in_err-rest.ensures.1 in
    rw (p.1, p.2) (maker_brace_fails c.args.is_private c.args.tokens.now c.in_ok-label.rest.now c.in_ok-label.label c.in_ok-label.ensures.gives.0 c.in_ok-params.rest.now c.in_ok-params.params c.in_ok-params.ensures.gives.0 c.in_err-rest.field-0.0 c.in_err-rest.ensures.gives)

pub returns-in_err-part-clause-gives : goal.returns-in_err-part-clause-gives
returns-in_err-part-clause-gives c =
    let p = err_from_is_err_and c.from_residual-in_err-part.result c.from_residual-in_err-part.ensures.1 in
    rw (p.1, p.2) (maker_body_fails c.args.is_private c.args.tokens.now c.in_ok-label.rest.now c.in_ok-label.label c.in_ok-label.ensures.gives.0 c.in_ok-params.rest.now c.in_ok-params.params c.in_ok-params.ensures.gives.0 c.in_ok-rest.rest.now c.in_ok-rest.ensures.gives c.in_err-part.field-0.0 c.in_err-part.ensures.gives)

pub returns-clause-gives : goal.returns-clause-gives
returns-clause-gives c =
    rw c.made.ensures (maker_found c.args.is_private c.args.tokens.now c.in_ok-label.rest.now c.in_ok-label.label c.in_ok-label.ensures.gives.0 c.in_ok-params.rest.now c.in_ok-params.params c.in_ok-params.ensures.gives.0 c.in_ok-rest.rest.now c.in_ok-rest.ensures.gives c.in_ok-part.part c.in_ok-part.rest c.in_ok-part.ensures.gives.0 c.in_ok-part.ensures.gives.1)
