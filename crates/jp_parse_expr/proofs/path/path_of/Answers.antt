use Rattle.std.proofs.Common.{◌≡◌, ℕ, List, [], refl, sym, ap, ◌∙◌, subst}
use Rattle.std.proofs.lemmas.Result.{err_from_is_err_and}
use Rattle.jp_grammar.specs.Guards.{PathSteps}
use Rattle.jp_parse_expr.specs.BehindGuards.{ends_path}
use Rattle.jp_parse_expr.specs.GuardParts.{GivesAll}
use Rattle.jp_parse_expr.proofs.GuardPaths.{path_wrong, path_gives}
use Rattle.jp_parse_expr.proofs.path.path_of.Goals as goal

pub returns-in_err-root-clause-gives : goal.returns-in_err-root-clause-gives
returns-in_err-root-clause-gives c =
    let p = err_from_is_err_and c.from_residual.result c.from_residual.ensures.1 in
    rw (p.1, p.2) (path_wrong c.front.result.0.now c.front.result.1.now c.args.tokens.now c.front.ensures.split c.in_err-root.field-0.0 c.in_err-root.ensures)

pub returns-clause-gives : goal.returns-clause-gives
returns-clause-gives c =
    path_gives c.front.result.0.now c.front.result.1.now c.args.tokens.now c.front.ensures.split c.in_ok-root.root c.path_steps.result c.in_ok-root.ensures
    (subst (λ (x : List (List ℕ)). GivesAll (PathSteps (record { place = c.front.result.0.now.place; root = c.in_ok-root.root; steps = x })) ends_path c.front.result.1.now c.path_steps.result) c.new.ensures c.path_steps.ensures.gives)
