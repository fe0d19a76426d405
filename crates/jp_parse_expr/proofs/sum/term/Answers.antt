use Rattle.std.proofs.Common.{◌≡◌, ℕ, ◌≤◌, Bool, true, false, List, [], ◌∷◌, ◌++◌, length, Option, Some, None, Ok, Err, refl, sym, ap, ◌∙◌, subst, arith}
use Rattle.std.proofs.lemmas.Result.{err_from_is_err_and}
use Rattle.jp_ast.specs.declared.sign.TheConstants as sign
use Rattle.jp_ast.specs.declared.guard.Summand.{Summand}
use Rattle.jp_grammar.specs.declared.kind.Kind.TheVariants as k
use Rattle.jp_grammar.specs.Kinds.{IsSign, IsNumber}
use Rattle.jp_grammar.specs.Guards.{Terms, Term, Lin, IsSummandSign}
use Rattle.jp_parse_expr.specs.BehindGuards.{ends_sum, ends_term}
use Rattle.jp_parse_expr.specs.GuardParts.{GivesAll, Begun}
use Rattle.jp_parse_expr.proofs.Signs.{sign_is, sign_is_no}
use Rattle.jp_parse_expr.proofs.GuardTerms.{number_alone, product_found, product_fails, path_alone, factor_wrong, factor_found, number_gives, path_fails, path_scales}
use Rattle.jp_parse_expr.proofs.GuardSums.{terms_stop, more_fails, more_gives, begun_fails, begun_gives, summed_fails, summed_gives, minus_gives, plain_gives}
use Rattle.jp_parse_expr.proofs.sum.term.Goals as goal

pub returns-in-Number-clause-gives : goal.returns-in-Number-clause-gives
returns-in-Number-clause-gives c =
    number_gives c.args.place c.args.negative c.front.result.0.now c.front.result.1.now c.args.tokens.now c.front.ensures.split c.in-Number.value c.in-Number.hex c.multiplied.result c.in-Number.is c.multiplied.ensures.gives

pub returns-in_err-path-clause-gives : goal.returns-in_err-path-clause-gives
returns-in_err-path-clause-gives c =
    let p = err_from_is_err_and c.from_residual.result c.from_residual.ensures.1 in
    rw (p.1, p.2) (path_fails c.args.place c.args.negative c.front.result.0.now c.front.result.1.now c.args.tokens.now c.front.ensures.split c.in_err-path.field-0.0 c.in_default.not-Number c.in_err-path.ensures.gives)

pub returns-clause-gives : goal.returns-clause-gives
returns-clause-gives c =
    path_scales c.args.place c.args.negative c.front.result.0.now c.front.result.1.now c.args.tokens.now c.front.ensures.split c.in_ok-path.path c.in_ok-path.behind.now c.scaled.result c.in_default.not-Number c.in_ok-path.ensures.gives c.scaled.ensures.gives
