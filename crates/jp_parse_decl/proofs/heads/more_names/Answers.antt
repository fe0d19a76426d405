use Rattle.std.proofs.Common.{ℕ, List, length, Ok, Err, sym, ap, ◌∙◌, subst, arith}
use Rattle.std.proofs.lemmas.Result.{err_from_is_err_and}
use Rattle.jp_ast.specs.declared.sign.TheConstants as sign
use Rattle.jp_grammar.specs.Kinds.{IsSign}
use Rattle.jp_grammar.specs.Declarations.{MoreNames}
use Rattle.jp_grammar.specs.Reading.{Any}
use Rattle.jp_parse_decl.specs.Answers.{Yields}
use Rattle.jp_parse_decl.specs.Behind.{ends_brace}
use Rattle.jp_parse_decl.proofs.Tokens.{sign_is, sign_is_no}
use Rattle.jp_parse_decl.proofs.HeadFacts.{names_stop, names_fails, names_gives}
use Rattle.jp_parse_decl.proofs.heads.more_names.Goals as goal

pub returns-then-not-is_sign-clause-gives : goal.returns-then-not-is_sign-clause-gives
returns-then-not-is_sign-clause-gives c =
    c.list.invariant.whole (Ok (c.list.names, c.list.tokens)) (names_stop c.list.names c.front.result.0.now c.front.result.1.now c.list.tokens.now c.front.ensures.split (sign_is_no sign.COMMA c.front.result.0.now (sym c.is_sign.ensures ∙ c.if-not-is_sign.true)), tt)

pub returns-in_err-name-clause-gives : goal.returns-in_err-name-clause-gives
returns-in_err-name-clause-gives c =
    let h : IsSign sign.COMMA c.front.result.0.now = sign_is sign.COMMA c.front.result.0.now (sym c.is_sign.ensures ∙ c.if-not-is_sign.false) in
    let p = err_from_is_err_and c.from_residual.result c.from_residual.ensures.1 in
    rw (p.1, p.2) (c.list.invariant.whole (Err c.in_err-name.field-0.0) (names_fails c.list.names c.front.result.0.now c.front.result.1.now c.list.tokens.now c.front.ensures.split c.in_err-name.field-0.0 h c.in_err-name.ensures.gives))

pub list-preserved : goal.list-preserved
list-preserved c =
    let h : IsSign sign.COMMA c.front.result.0.now = sign_is sign.COMMA c.front.result.0.now (sym c.is_sign.ensures ∙ c.if-not-is_sign.false) in
    let i = c.list.invariant in
    record {
      rest = (c.in_ok-name.ensures.rest.0, omega (arith, i.rest.1, ap length c.front.ensures.split, c.in_ok-name.ensures.rest.1));
      whole = λ r f. i.whole r (names_gives c.list.names c.front.result.0.now c.front.result.1.now c.list.tokens.now c.front.ensures.split c.in_ok-name.name c.in_ok-name.behind.now r h c.in_ok-name.ensures.gives.0
          (subst (λ (x : List (List ℕ)). Yields (MoreNames x) ends_brace Any c.in_ok-name.behind.now r) c.in_ok-push.ensures.ok f));
    }
