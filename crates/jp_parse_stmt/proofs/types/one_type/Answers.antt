use Rattle.std.proofs.Common.{sym, ◌∙◌, subst}
use Rattle.std.proofs.lemmas.Result.{err_from_is_err_and}
use Rattle.jp_pred.specs.declared.ty.Ty.{Ty}
use Rattle.jp_ast.specs.declared.sign.TheConstants as sign
use Rattle.jp_grammar.specs.Kinds.{IsSign}
use Rattle.jp_grammar.specs.Statements.{OneType}
use Rattle.jp_grammar.specs.Reading.{Found}
use Rattle.jp_parse_expr.proofs.Signs.{sign_is, sign_is_no}
use Rattle.jp_parse_stmt.specs.Behind.{ends_type}
use Rattle.jp_parse_stmt.proofs.TypeReads.{type_wrong, type_alone, array_wrong, array_found}
use Rattle.jp_parse_stmt.proofs.types.one_type.Goals as goal

pub returns-in_err-elem-clause-gives : goal.returns-in_err-elem-clause-gives
returns-in_err-elem-clause-gives c =
    let p = err_from_is_err_and c.from_residual.result c.from_residual.ensures.1 in
    rw (p.1, p.2) (type_wrong c.front.result.0.now c.front.result.1.now c.args.tokens.now c.in_err-elem.field-0.0 c.front.ensures.split c.in_err-elem.ensures)

pub returns-then-not-is_sign-clause-gives : goal.returns-then-not-is_sign-clause-gives
returns-then-not-is_sign-clause-gives c =
    let other : IsSign sign.OPEN_BRACKET c.front-2.result.0.now → ⊥ = sign_is_no sign.OPEN_BRACKET c.front-2.result.0.now (sym c.is_sign.ensures ∙ c.if-not-is_sign.true) in
    type_alone c.in_ok-elem.elem c.front.result.0.now c.front-2.result.0.now c.front-2.result.1.now c.front.result.1.now c.args.tokens.now c.front.ensures.split c.front-2.ensures.split c.in_ok-elem.ensures other

pub returns-in_err-behind-clause-gives : goal.returns-in_err-behind-clause-gives
returns-in_err-behind-clause-gives c =
    let p = err_from_is_err_and c.from_residual-in_err-behind.result c.from_residual-in_err-behind.ensures.1 in
    let h : IsSign sign.OPEN_BRACKET c.front-2.result.0.now = sign_is sign.OPEN_BRACKET c.front-2.result.0.now (sym c.is_sign.ensures ∙ c.if-not-is_sign.false) in
    rw (p.1, p.2) (array_wrong c.in_ok-elem.elem c.front.result.0.now c.front-2.result.0.now c.front-2.result.1.now c.front.result.1.now c.args.tokens.now c.front.ensures.split c.front-2.ensures.split c.in_ok-elem.ensures c.in_err-behind.field-0.0 h c.in_err-behind.ensures.gives)

pub returns-clause-gives : goal.returns-clause-gives
returns-clause-gives c =
    let h : IsSign sign.OPEN_BRACKET c.front-2.result.0.now = sign_is sign.OPEN_BRACKET c.front-2.result.0.now (sym c.is_sign.ensures ∙ c.if-not-is_sign.false) in
    subst (λ (t : Ty). Found OneType (λ _. ends_type) c.args.tokens.now t c.in_ok-behind.behind.now) (sym c.array_of.ensures)
    (array_found c.in_ok-elem.elem c.front.result.0.now c.front-2.result.0.now c.front-2.result.1.now c.front.result.1.now c.args.tokens.now c.front.ensures.split c.front-2.ensures.split c.in_ok-elem.ensures c.in_ok-behind.behind.now h c.in_ok-behind.ensures.gives)
