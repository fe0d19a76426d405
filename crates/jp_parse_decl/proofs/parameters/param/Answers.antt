use Rattle.std.proofs.lemmas.Result.{err_from_is_err_and}
use Rattle.jp_parse_decl.proofs.ParamFacts.{param_type_fails, param_name_fails, param_found}
use Rattle.jp_parse_decl.proofs.parameters.param.Goals as goal

pub returns-in_err-ty-clause-gives : goal.returns-in_err-ty-clause-gives
returns-in_err-ty-clause-gives c =
    let p = err_from_is_err_and c.from_residual.result c.from_residual.ensures.1 in
    rw (p.1, p.2) (param_type_fails c.args.tokens.now c.in_err-ty.field-0.0 c.in_err-ty.ensures.gives)

pub returns-in_err-label-clause-gives : goal.returns-in_err-label-clause-gives
returns-in_err-label-clause-gives c =
    let p = err_from_is_err_and c.from_residual-in_err-label.result c.from_residual-in_err-label.ensures.1 in
    rw (p.1, p.2) (param_name_fails c.args.tokens.now c.in_ok-ty.rest.now c.in_ok-ty.ty c.in_err-label.field-0.0 c.in_ok-ty.ensures.gives.0 c.in_err-label.ensures.gives)

pub returns-clause-gives : goal.returns-clause-gives
returns-clause-gives c =
    param_found c.args.tokens.now c.in_ok-ty.rest.now c.in_ok-label.rest c.in_ok-ty.ty c.in_ok-label.label c.in_ok-ty.ensures.gives.0 c.in_ok-label.ensures.gives.0
