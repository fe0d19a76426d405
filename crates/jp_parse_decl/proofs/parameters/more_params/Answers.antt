use Rattle.std.proofs.Common.{List, Ok, Err, sym, ◌∙◌, subst, arith}
use Rattle.std.proofs.lemmas.Result.{err_from_is_err_and}
use Rattle.jp_ast.specs.declared.decl.Param.{Param}
use Rattle.jp_ast.specs.declared.sign.TheConstants as sign
use Rattle.jp_grammar.specs.Kinds.{IsSign}
use Rattle.jp_grammar.specs.Declarations.{MoreParams}
use Rattle.jp_grammar.specs.Reading.{Any}
use Rattle.jp_parse_stmt.specs.Behind.{anything}
use Rattle.jp_parse_decl.specs.Answers.{Yields}
use Rattle.jp_parse_decl.proofs.Tokens.{sign_is, sign_is_no}
use Rattle.jp_parse_decl.proofs.ParamFacts.{last_found, more_wrong, next_fails, next_gives}
use Rattle.jp_parse_decl.proofs.parameters.more_params.Goals as goal

pub returns-then-is_sign-clause-gives : goal.returns-then-is_sign-clause-gives
returns-then-is_sign-clause-gives c =
    c.list.invariant.whole (Ok (c.list.params, c.front.result.1)) (last_found c.list.params c.front.result.0.now c.front.result.1.now c.list.tokens.now c.front.ensures.split (sign_is sign.CLOSE_PAREN c.front.result.0.now (sym c.is_sign.ensures ∙ c.if-is_sign.true)), tt)

pub returns-in_err-rest-clause-gives : goal.returns-in_err-rest-clause-gives
returns-in_err-rest-clause-gives c =
    let no : IsSign sign.CLOSE_PAREN c.front.result.0.now → ⊥ = sign_is_no sign.CLOSE_PAREN c.front.result.0.now (sym c.is_sign.ensures ∙ c.if-is_sign.false) in
    let p = err_from_is_err_and c.from_residual.result c.from_residual.ensures.1 in
    rw (p.1, p.2) (c.list.invariant.whole (Err c.in_err-rest.field-0.0) (more_wrong c.list.params c.front.result.0.now c.front.result.1.now c.list.tokens.now c.front.ensures.split c.in_err-rest.field-0.0 no c.in_err-rest.ensures.gives))

pub returns-in_err-param-clause-gives : goal.returns-in_err-param-clause-gives
returns-in_err-param-clause-gives c =
    let p = err_from_is_err_and c.from_residual-in_err-param.result c.from_residual-in_err-param.ensures.1 in
    rw (p.1, p.2) (c.list.invariant.whole (Err c.in_err-param.field-0.0) (next_fails c.list.params c.list.tokens.now c.in_ok-rest.rest.now c.in_err-param.field-0.0 c.in_ok-rest.ensures.gives c.in_err-param.ensures.gives))

pub list-preserved : goal.list-preserved
list-preserved c =
    let i = c.list.invariant in
    record {
      rest = (c.in_ok-param.ensures.rest.0, omega (arith, i.rest.1, c.in_ok-rest.ensures.rest.1, c.in_ok-param.ensures.rest.1));
      whole = λ r f. i.whole r (next_gives c.list.params c.list.tokens.now c.in_ok-rest.rest.now c.in_ok-param.behind.now c.in_ok-param.param r c.in_ok-rest.ensures.gives c.in_ok-param.ensures.gives.0
          (subst (λ (x : List Param). Yields (MoreParams x) anything Any c.in_ok-param.behind.now r) c.in_ok-push.ensures.ok f));
    }
