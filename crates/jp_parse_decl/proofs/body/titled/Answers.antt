use Rattle.std.proofs.lemmas.Result.{err_from_is_err_and}
use Rattle.jp_parse_decl.proofs.MemberFacts.{titled_result_fails, titled_name_fails, titled_gives}
use Rattle.jp_parse_decl.proofs.body.titled.Goals as goal

pub returns-in_err-result_type-clause-gives : goal.returns-in_err-result_type-clause-gives
returns-in_err-result_type-clause-gives c =
    let p = err_from_is_err_and c.from_residual.result c.from_residual.ensures.1 in
    rw (p.1, p.2) (titled_result_fails c.args.is_private c.args.is_static c.args.tokens.now c.in_err-result_type.field-0.0 c.in_err-result_type.ensures.gives)

pub returns-in_err-label-clause-gives : goal.returns-in_err-label-clause-gives
returns-in_err-label-clause-gives c =
    let p = err_from_is_err_and c.from_residual-in_err-label.result c.from_residual-in_err-label.ensures.1 in
    rw (p.1, p.2) (titled_name_fails c.args.is_private c.args.is_static c.args.tokens.now c.in_ok-result_type.rest.now c.in_ok-result_type.result_type c.in_ok-result_type.ensures.gives.0 c.in_err-label.field-0.0 c.in_err-label.ensures.gives)

pub returns-clause-gives : goal.returns-clause-gives
returns-clause-gives c =
    titled_gives c.args.is_private c.args.is_static c.args.tokens.now c.in_ok-result_type.rest.now c.in_ok-result_type.result_type c.in_ok-result_type.ensures.gives.0 c.in_ok-label.rest.now c.in_ok-label.label c.member_rest.result c.in_ok-label.ensures.gives.0 c.member_rest.ensures.gives
