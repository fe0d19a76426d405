use Rattle.std.proofs.lemmas.Result.{err_from_is_err_and}
use Rattle.jp_parse_decl.proofs.ParamFacts.{params_wrong, params_gives}
use Rattle.jp_parse_decl.proofs.parameters.params.Goals as goal

pub returns-in_err-rest-clause-gives : goal.returns-in_err-rest-clause-gives
returns-in_err-rest-clause-gives c =
    let p = err_from_is_err_and c.from_residual.result c.from_residual.ensures.1 in
    rw (p.1, p.2) (params_wrong c.args.tokens.now c.in_err-rest.field-0.0 c.in_err-rest.ensures.gives)

pub returns-clause-gives : goal.returns-clause-gives
returns-clause-gives c =
    params_gives c.args.tokens.now c.in_ok-rest.rest.now c.listed.result c.in_ok-rest.ensures.gives c.listed.ensures.gives
