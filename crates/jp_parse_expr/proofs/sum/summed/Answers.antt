use Rattle.std.proofs.Common.{◌≡◌, ℕ, ◌≤◌, Bool, true, false, List, [], ◌∷◌, ◌++◌, length, Option, Some, None, Ok, Err, refl, sym, ap, ◌∙◌, subst, arith}
use Rattle.std.proofs.lemmas.Result.{err_from_is_err_and}
use Rattle.jp_ast.specs.declared.sign.TheConstants as sign
use Rattle.jp_ast.specs.declared.guard.Summand.{Summand}
use Rattle.jp_grammar.specs.declared.kind.Kind.TheVariants as k
use Rattle.jp_grammar.specs.Kinds.{IsSign, IsNumber}
use Rattle.jp_grammar.specs.Guards.{Terms, Term, Lin, IsSummandSign}
use Rattle.jp_parse_expr.specs.BehindGuards.{ends_sum, ends_term}
use Rattle.jp_parse_expr.specs.GuardParts.{GivesAll, Begun}
use Rattle.jp_parse_expr.proofs.Signs.{sign_is, sign_is_no}
use Rattle.jp_parse_expr.proofs.GuardTerms.{number_alone, product_found, product_fails, path_alone, factor_wrong, factor_found, number_gives, path_fails, path_scales}
use Rattle.jp_parse_expr.proofs.GuardSums.{terms_stop, more_fails, more_gives, begun_fails, begun_gives, summed_fails, summed_gives, minus_gives, plain_gives}
use Rattle.jp_parse_expr.proofs.sum.summed.Goals as goal

pub returns-in_err-summand-clause-gives : goal.returns-in_err-summand-clause-gives
returns-in_err-summand-clause-gives c =
    let p = err_from_is_err_and c.from_residual.result c.from_residual.ensures.1 in
    rw (p.1, p.2) (summed_fails c.args.path c.args.tokens.now c.in_err-summand.field-0.0 c.in_err-summand.ensures.gives)

pub returns-clause-gives : goal.returns-clause-gives
returns-clause-gives c =
    let pushed : c.push.new.self ≡ [] ++ c.in_ok-summand.summand ∷ [] = cc (c.in_ok-push.ensures.ok) in
    summed_gives c.args.path c.args.tokens.now c.in_ok-summand.behind.now c.in_ok-summand.summand c.terms.result c.in_ok-summand.ensures.gives
    (subst (λ (x : List Summand). GivesAll (Terms x) ends_sum c.in_ok-summand.behind.now c.terms.result) pushed c.terms.ensures.gives)
