use Rattle.std.proofs.Common.{◌≡◌, List, [], ◌∷◌, ◌++◌, sym, ◌∙◌, subst}
use Rattle.std.proofs.lemmas.Result.{err_from_is_err_and}
use Rattle.jp_ast.specs.declared.decl.Param.{Param}
use Rattle.jp_ast.specs.declared.sign.TheConstants as sign
use Rattle.jp_grammar.specs.Kinds.{IsSign}
use Rattle.jp_grammar.specs.Declarations.{MoreParams}
use Rattle.jp_grammar.specs.Reading.{Found, Any}
use Rattle.jp_parse_stmt.specs.Behind.{anything}
use Rattle.jp_parse_decl.specs.Answers.{Yields}
use Rattle.jp_parse_decl.proofs.Tokens.{sign_is, sign_is_no}
use Rattle.jp_parse_decl.proofs.ParamFacts.{none_found, listed_fails, listed_gives}
use Rattle.jp_parse_decl.specs.Parts.{Listed}
use Rattle.jp_parse_decl.proofs.parameters.listed.Goals as goal

pub returns-then-is_sign-clause-gives : goal.returns-then-is_sign-clause-gives
returns-then-is_sign-clause-gives c =
    (subst (λ (x : List Param). Found Listed (λ _. anything) c.args.tokens.now x c.front.result.1.now) (sym c.new-params.ensures) (none_found c.front.result.0.now c.front.result.1.now c.args.tokens.now c.front.ensures.split (sign_is sign.CLOSE_PAREN c.front.result.0.now (sym c.is_sign.ensures ∙ c.if-is_sign.true))), tt)

pub returns-in_err-param-clause-gives : goal.returns-in_err-param-clause-gives
returns-in_err-param-clause-gives c =
    let no : IsSign sign.CLOSE_PAREN c.front.result.0.now → ⊥ = sign_is_no sign.CLOSE_PAREN c.front.result.0.now (sym c.is_sign.ensures ∙ c.if-is_sign.false) in
    let p = err_from_is_err_and c.from_residual.result c.from_residual.ensures.1 in
    rw (p.1, p.2) (listed_fails c.front.result.0.now c.front.result.1.now c.args.tokens.now c.front.ensures.split c.in_err-param.field-0.0 no c.in_err-param.ensures.gives)

pub returns-clause-gives : goal.returns-clause-gives
returns-clause-gives c =
    let no : IsSign sign.CLOSE_PAREN c.front.result.0.now → ⊥ = sign_is_no sign.CLOSE_PAREN c.front.result.0.now (sym c.is_sign.ensures ∙ c.if-is_sign.false) in
    let pushed : c.push.new.self ≡ [] ++ c.in_ok-param.param ∷ [] = cc (c.in_ok-push.ensures.ok) in
    listed_gives c.front.result.0.now c.front.result.1.now c.args.tokens.now c.front.ensures.split c.in_ok-param.behind.now c.in_ok-param.param c.more_params.result no c.in_ok-param.ensures.gives.0
    (subst (λ (x : List Param). Yields (MoreParams x) anything Any c.in_ok-param.behind.now c.more_params.result) pushed c.more_params.ensures.gives)
