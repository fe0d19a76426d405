use Rattle.std.proofs.Common.{◌≡◌, ℕ, ◌≤◌, Bool, true, false, List, [], ◌∷◌, ◌++◌, length, Option, Some, None, Ok, Err, refl, sym, ap, ◌∙◌, subst, arith}
use Rattle.std.proofs.lemmas.Result.{err_from_is_err_and}
use Rattle.jp_ast.specs.declared.sign.TheConstants as sign
use Rattle.jp_ast.specs.declared.guard.Summand.{Summand}
use Rattle.jp_grammar.specs.declared.kind.Kind.TheVariants as k
use Rattle.jp_grammar.specs.Kinds.{IsSign, IsNumber}
use Rattle.jp_grammar.specs.Guards.{Terms, Term, Lin, IsSummandSign}
use Rattle.jp_parse_expr.specs.BehindGuards.{ends_sum, ends_term}
use Rattle.jp_parse_expr.specs.GuardParts.{GivesAll, Begun}
use Rattle.jp_parse_expr.proofs.Signs.{sign_is, sign_is_no}
use Rattle.jp_parse_expr.proofs.GuardTerms.{number_alone, product_found, product_fails, path_alone, factor_wrong, factor_found, number_gives, path_fails, path_scales}
use Rattle.jp_parse_expr.proofs.GuardSums.{terms_stop, more_fails, more_gives, begun_fails, begun_gives, summed_fails, summed_gives, minus_gives, plain_gives}
use Rattle.jp_parse_expr.proofs.sum.scaled.Goals as goal

pub returns-then-not-is_sign-clause-gives : goal.returns-then-not-is_sign-clause-gives
returns-then-not-is_sign-clause-gives c =
    path_alone c.args.place c.args.negative c.args.path c.front.result.0.now c.front.result.1.now c.args.tokens.now c.front.ensures.split (sign_is_no sign.TIMES c.front.result.0.now (sym c.is_sign.ensures ∙ c.if-not-is_sign.true))

pub returns-in_default : goal.returns-in_default
returns-in_default c = record {
  gives = factor_wrong c.args.place c.args.negative c.args.path c.front.result.0.now c.front-2.result.0.now c.front-2.result.1.now c.front.result.1.now c.args.tokens.now c.front.ensures.split c.front-2.ensures.split (sign_is sign.TIMES c.front.result.0.now (sym c.is_sign.ensures ∙ c.if-not-is_sign.false)) c.refused.result c.in_default.not-Number c.refused.ensures;
  rest = tt;
}

pub returns-clause-gives : goal.returns-clause-gives
returns-clause-gives c =
    factor_found c.args.place c.args.negative c.args.path c.front.result.0.now c.front-2.result.0.now c.front-2.result.1.now c.front.result.1.now c.args.tokens.now c.front.ensures.split c.front-2.ensures.split (sign_is sign.TIMES c.front.result.0.now (sym c.is_sign.ensures ∙ c.if-not-is_sign.false)) c.in-Number.value c.in-Number.hex c.in-Number.is
