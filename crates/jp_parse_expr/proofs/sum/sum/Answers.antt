use Rattle.std.proofs.Common.{◌≡◌, ℕ, ◌≤◌, Bool, true, false, List, [], ◌∷◌, ◌++◌, length, Option, Some, None, Ok, Err, refl, sym, ap, ◌∙◌, subst, arith}
use Rattle.std.proofs.lemmas.Result.{err_from_is_err_and}
use Rattle.jp_ast.specs.declared.sign.TheConstants as sign
use Rattle.jp_ast.specs.declared.guard.Summand.{Summand}
use Rattle.jp_grammar.specs.declared.kind.Kind.TheVariants as k
use Rattle.jp_grammar.specs.Kinds.{IsSign, IsNumber}
use Rattle.jp_grammar.specs.Guards.{Terms, Term, Lin, IsSummandSign}
use Rattle.jp_parse_expr.specs.BehindGuards.{ends_sum, ends_term}
use Rattle.jp_parse_expr.specs.GuardParts.{GivesAll, Begun}
use Rattle.jp_parse_expr.proofs.Signs.{sign_is, sign_is_no}
use Rattle.jp_parse_expr.proofs.GuardTerms.{number_alone, product_found, product_fails, path_alone, factor_wrong, factor_found, number_gives, path_fails, path_scales}
use Rattle.jp_parse_expr.proofs.GuardSums.{terms_stop, more_fails, more_gives, begun_fails, begun_gives, summed_fails, summed_gives, minus_gives, plain_gives}
use Rattle.jp_parse_expr.proofs.sum.sum.Goals as goal

pub returns-then-is_sign-clause-gives : goal.returns-then-is_sign-clause-gives
returns-then-is_sign-clause-gives c =
    minus_gives c.front.result.0.now c.front.result.1.now c.args.tokens.now c.front.ensures.split c.begun.result (sign_is sign.MINUS c.front.result.0.now (sym c.is_sign.ensures ∙ c.if-is_sign.true)) c.begun.ensures.gives

pub returns-clause-gives : goal.returns-clause-gives
returns-clause-gives c =
    plain_gives c.front.result.0.now c.front.result.1.now c.args.tokens.now c.front.ensures.split c.begun-2.result (sign_is_no sign.MINUS c.front.result.0.now (sym c.is_sign.ensures ∙ c.if-is_sign.false)) c.begun-2.ensures.gives
