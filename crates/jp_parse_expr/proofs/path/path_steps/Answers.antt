use Rattle.std.proofs.Common.{◌≡◌, ℕ, ◌≤◌, List, [], ◌∷◌, ◌++◌, length, Ok, Err, refl, sym, ap, ◌∙◌, subst, arith}
use Rattle.std.proofs.lemmas.Result.{err_from_is_err_and}
use Rattle.jp_ast.specs.declared.sign.TheConstants as sign
use Rattle.jp_grammar.specs.declared.kind.Kind.TheVariants as k
use Rattle.jp_grammar.specs.Kinds.{IsSign}
use Rattle.jp_grammar.specs.Guards.{PathSteps}
use Rattle.jp_parse_expr.specs.BehindGuards.{ends_path}
use Rattle.jp_parse_expr.specs.GuardParts.{GivesAll}
use Rattle.jp_parse_expr.proofs.Signs.{sign_is, sign_is_no}
use Rattle.jp_parse_expr.proofs.GuardPaths.{path_stops, step_wrong, step_gives}
use Rattle.jp_parse_expr.proofs.path.path_steps.Goals as goal

pub returns-then-not-is_sign-clause-gives : goal.returns-then-not-is_sign-clause-gives
returns-then-not-is_sign-clause-gives c =
    c.steps.invariant.whole (Ok (c.steps.path, c.steps.tokens)) (path_stops c.steps.path c.front.result.0.now c.front.result.1.now c.steps.tokens.now c.front.ensures.split (sign_is_no sign.DOT c.front.result.0.now (sym c.is_sign.ensures ∙ c.if-not-is_sign.true)))

pub returns-in_err-name_of-clause-gives : goal.returns-in_err-name_of-clause-gives
returns-in_err-name_of-clause-gives c =
    let p = err_from_is_err_and c.from_residual.result c.from_residual.ensures.1 in
    rw (p.1, p.2) (c.steps.invariant.whole (Err c.in_err-name_of.field-0.0) (step_wrong c.steps.path c.front.result.0.now c.front-in-steps.result.0.now c.front-in-steps.result.1.now c.front.result.1.now c.steps.tokens.now c.front.ensures.split c.front-in-steps.ensures.split (sign_is sign.DOT c.front.result.0.now (sym c.is_sign.ensures ∙ c.if-not-is_sign.false)) c.in_err-name_of.field-0.0 c.in_err-name_of.ensures))

pub steps-preserved : goal.steps-preserved
steps-preserved c =
    let i = c.steps.invariant in
    let h : IsSign sign.DOT c.front.result.0.now = sign_is sign.DOT c.front.result.0.now (sym c.is_sign.ensures ∙ c.if-not-is_sign.false) in
    let n = c.in_ok-name_of.ensures in
    record {
      rest = (c.front-in-steps.ensures.text (λ e. let g = n.1 in cc), omega (arith, i.rest.1, ap length c.front.ensures.split, ap length c.front-in-steps.ensures.split));
      whole = λ r f. i.whole r (step_gives c.steps.path c.front.result.0.now c.front-in-steps.result.0.now c.front-in-steps.result.1.now c.front.result.1.now c.steps.tokens.now c.front.ensures.split c.front-in-steps.ensures.split h c.in_ok-name_of.field-0 r n
          (subst (λ (x : List (List ℕ)). GivesAll (PathSteps (record { place = c.steps.path.place; root = c.steps.path.root; steps = x })) ends_path c.front-in-steps.result.1.now r) c.in_ok-push.ensures.ok f));
    }
