use Rattle.std.proofs.lemmas.Result.{err_from_is_err_and}
use Rattle.jp_parse_decl.proofs.HeadFacts.{faces_name_fails, faces_names_fails, faces_brace_fails, faces_body_fails, faces_found}
use Rattle.jp_parse_decl.proofs.heads.interface.Goals as goal

pub returns-in_err-label-clause-gives : goal.returns-in_err-label-clause-gives
returns-in_err-label-clause-gives c =
    let p = err_from_is_err_and c.from_residual.result c.from_residual.ensures.1 in
    rw (p.1, p.2) (faces_name_fails c.args.tokens.now c.in_err-label.field-0.0 c.in_err-label.ensures.gives)

pub returns-in_err-interfaces-clause-gives : goal.returns-in_err-interfaces-clause-gives
returns-in_err-interfaces-clause-gives c =
    let p = err_from_is_err_and c.from_residual-in_err-interfaces.result c.from_residual-in_err-interfaces.ensures.1 in
    rw (p.1, p.2) (faces_names_fails c.args.tokens.now c.in_ok-label.rest.now c.in_ok-label.label c.in_ok-label.ensures.gives.0 c.in_err-interfaces.field-0.0 c.in_err-interfaces.ensures.gives)

pub returns-in_err-rest-clause-gives : goal.returns-in_err-rest-clause-gives
returns-in_err-rest-clause-gives c =
    let p = err_from_is_err_and c.from_residual-in_err-rest.result c.from_residual-in_err-rest.ensures.1 in
    rw (p.1, p.2) (faces_brace_fails c.args.tokens.now c.in_ok-label.rest.now c.in_ok-label.label c.in_ok-label.ensures.gives.0 c.in_ok-interfaces.rest.now c.in_ok-interfaces.interfaces c.in_ok-interfaces.ensures.gives.0 c.in_err-rest.field-0.0 c.in_err-rest.ensures.gives)

pub returns-in_err-members-clause-gives : goal.returns-in_err-members-clause-gives
returns-in_err-members-clause-gives c =
    let p = err_from_is_err_and c.from_residual-in_err-members.result c.from_residual-in_err-members.ensures.1 in
    rw (p.1, p.2) (faces_body_fails c.args.tokens.now c.in_ok-label.rest.now c.in_ok-label.label c.in_ok-label.ensures.gives.0 c.in_ok-interfaces.rest.now c.in_ok-interfaces.interfaces c.in_ok-interfaces.ensures.gives.0 c.in_ok-rest.rest.now c.in_ok-rest.ensures.gives c.in_err-members.field-0.0 c.in_err-members.ensures.gives)

pub returns-clause-gives : goal.returns-clause-gives
returns-clause-gives c =
    faces_found c.args.tokens.now c.in_ok-label.rest.now c.in_ok-label.label c.in_ok-label.ensures.gives.0 c.in_ok-interfaces.rest.now c.in_ok-interfaces.interfaces c.in_ok-interfaces.ensures.gives.0 c.in_ok-rest.rest.now c.in_ok-rest.ensures.gives c.in_ok-members.members c.in_ok-members.rest c.in_ok-members.ensures.gives.0 c.in_ok-members.ensures.gives.1
