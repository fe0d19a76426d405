use Rattle.std.proofs.lemmas.Result.{err_from_is_err_and}
use Rattle.jp_parse_decl.proofs.HeadFacts.{class_word_fails, class_name_fails, class_super_fails, class_names_fails, class_brace_fails, class_body_fails, class_found}
use Rattle.jp_parse_decl.proofs.heads.class.Goals as goal

pub returns-in_err-rest-clause-gives : goal.returns-in_err-rest-clause-gives
returns-in_err-rest-clause-gives c =
    let p = err_from_is_err_and c.from_residual.result c.from_residual.ensures.1 in
    rw (p.1, p.2) (class_word_fails c.args.is_abstract c.args.is_final c.args.tokens.now c.in_err-rest.field-0.0 c.in_err-rest.ensures.gives)

pub returns-in_err-label-clause-gives : goal.returns-in_err-label-clause-gives
returns-in_err-label-clause-gives c =
    let p = err_from_is_err_and c.from_residual-in_err-label.result c.from_residual-in_err-label.ensures.1 in
    rw (p.1, p.2) (class_name_fails c.args.is_abstract c.args.is_final c.args.tokens.now c.in_ok-rest.rest.now c.in_ok-rest.ensures.gives c.in_err-label.field-0.0 c.in_err-label.ensures.gives)

pub returns-in_err-superclass-clause-gives : goal.returns-in_err-superclass-clause-gives
returns-in_err-superclass-clause-gives c =
    let p = err_from_is_err_and c.from_residual-in_err-superclass.result c.from_residual-in_err-superclass.ensures.1 in
    rw (p.1, p.2) (class_super_fails c.args.is_abstract c.args.is_final c.args.tokens.now c.in_ok-rest.rest.now c.in_ok-rest.ensures.gives c.in_ok-label.rest.now c.in_ok-label.label c.in_ok-label.ensures.gives.0 c.in_err-superclass.field-0.0 c.in_err-superclass.ensures.gives)

pub returns-in_err-interfaces-clause-gives : goal.returns-in_err-interfaces-clause-gives
returns-in_err-interfaces-clause-gives c =
    let p = err_from_is_err_and c.from_residual-in_err-interfaces.result c.from_residual-in_err-interfaces.ensures.1 in
    rw (p.1, p.2) (class_names_fails c.args.is_abstract c.args.is_final c.args.tokens.now c.in_ok-rest.rest.now c.in_ok-rest.ensures.gives c.in_ok-label.rest.now c.in_ok-label.label c.in_ok-label.ensures.gives.0 c.in_ok-superclass.rest.now c.in_ok-superclass.superclass c.in_ok-superclass.ensures.gives.0 c.in_err-interfaces.field-0.0 c.in_err-interfaces.ensures.gives)

pub returns-in_err-rest-2-clause-gives : goal.returns-in_err-rest-2-clause-gives
returns-in_err-rest-2-clause-gives c =
    let p = err_from_is_err_and c.from_residual-in_err-rest-2.result c.from_residual-in_err-rest-2.ensures.1 in
    rw (p.1, p.2) (class_brace_fails c.args.is_abstract c.args.is_final c.args.tokens.now c.in_ok-rest.rest.now c.in_ok-rest.ensures.gives c.in_ok-label.rest.now c.in_ok-label.label c.in_ok-label.ensures.gives.0 c.in_ok-superclass.rest.now c.in_ok-superclass.superclass c.in_ok-superclass.ensures.gives.0 c.in_ok-interfaces.rest.now c.in_ok-interfaces.interfaces c.in_ok-interfaces.ensures.gives.0 c.in_err-rest-2.field-0.0 c.in_err-rest-2.ensures.gives)

pub returns-in_err-members-clause-gives : goal.returns-in_err-members-clause-gives
returns-in_err-members-clause-gives c =
    let p = err_from_is_err_and c.from_residual-in_err-members.result c.from_residual-in_err-members.ensures.1 in
    rw (p.1, p.2) (class_body_fails c.args.is_abstract c.args.is_final c.args.tokens.now c.in_ok-rest.rest.now c.in_ok-rest.ensures.gives c.in_ok-label.rest.now c.in_ok-label.label c.in_ok-label.ensures.gives.0 c.in_ok-superclass.rest.now c.in_ok-superclass.superclass c.in_ok-superclass.ensures.gives.0 c.in_ok-interfaces.rest.now c.in_ok-interfaces.interfaces c.in_ok-interfaces.ensures.gives.0 c.in_ok-rest-2.rest.now c.in_ok-rest-2.ensures.gives c.in_err-members.field-0.0 c.in_err-members.ensures.gives)

pub returns-clause-gives : goal.returns-clause-gives
returns-clause-gives c =
    class_found c.args.is_abstract c.args.is_final c.args.tokens.now c.in_ok-rest.rest.now c.in_ok-rest.ensures.gives c.in_ok-label.rest.now c.in_ok-label.label c.in_ok-label.ensures.gives.0 c.in_ok-superclass.rest.now c.in_ok-superclass.superclass c.in_ok-superclass.ensures.gives.0 c.in_ok-interfaces.rest.now c.in_ok-interfaces.interfaces c.in_ok-interfaces.ensures.gives.0 c.in_ok-rest-2.rest.now c.in_ok-rest-2.ensures.gives c.in_ok-members.members c.in_ok-members.rest c.in_ok-members.ensures.gives.0 c.in_ok-members.ensures.gives.1
