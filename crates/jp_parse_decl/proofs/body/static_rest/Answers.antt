use Rattle.std.proofs.lemmas.Result.{err_from_is_err_and}
use Rattle.jp_parse_decl.proofs.BodyFacts.{static_params_fails, static_block_fails, static_found}
use Rattle.jp_parse_decl.proofs.body.static_rest.Goals as goal

pub returns-in_err-params-clause-gives : goal.returns-in_err-params-clause-gives
returns-in_err-params-clause-gives c =
    let p = err_from_is_err_and c.from_residual.result c.from_residual.ensures.1 in
    rw (p.1, p.2) (static_params_fails c.args.is_private c.args.result_type c.args.label c.args.tokens.now c.in_err-params.field-0.0 c.in_err-params.ensures.gives)

pub returns-in_err-block-clause-gives : goal.returns-in_err-block-clause-gives
returns-in_err-block-clause-gives c =
    let p = err_from_is_err_and c.from_residual-in_err-block.result c.from_residual-in_err-block.ensures.1 in
    rw (p.1, p.2) (static_block_fails c.args.is_private c.args.result_type c.args.label c.args.tokens.now c.in_ok-params.rest.now c.in_ok-params.params c.in_ok-params.ensures.gives.0 c.in_err-block.field-0.0 c.in_err-block.ensures.gives)

pub returns-clause-gives : goal.returns-clause-gives
returns-clause-gives c =
    rw c.made.ensures (static_found c.args.is_private c.args.result_type c.args.label c.args.tokens.now c.in_ok-params.rest.now c.in_ok-params.params c.in_ok-params.ensures.gives.0 c.in_ok-block.block c.in_ok-block.rest c.in_ok-block.ensures.gives.0 c.in_ok-block.ensures.gives.1)
