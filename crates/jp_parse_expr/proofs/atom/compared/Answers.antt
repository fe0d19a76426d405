use Rattle.std.proofs.Common.{◌≡◌, ℕ, ◌≤◌, ◌==◌, ◌||◌, Bool, true, false, IsTrue, List, [], ◌∷◌, ◌++◌, length, Option, Some, None, Ok, Err, inl, inr, refl, sym, ap, ◌∙◌, subst, arith}
use Rattle.std.proofs.lemmas.Result.{err_from_is_err_and}
use Rattle.std.proofs.lemmas.Grind.{common_steps}
use Rattle.jp_ast.specs.declared.sign.TheConstants as sign
use Rattle.jp_ast.specs.declared.guard.GuardExpr.{GuardExpr}
use Rattle.jp_ast.specs.declared.guard.Summand.{Summand}
use Rattle.jp_grammar.specs.declared.kind.Kind.TheVariants as k
use Rattle.jp_grammar.specs.Kinds.{Is, IsSign, IsName, Tokens, kind_of_token}
use Rattle.jp_grammar.specs.Guards.{Atom, Lin, Path, is_comparison}
use Rattle.jp_grammar.specs.Reading.{Found, Fails, Begins}
use Rattle.jp_parse_expr.specs.BehindGuards.{ends_join, ends_sum, ends_path}
use Rattle.jp_parse_expr.specs.GuardParts.{GivesAll, Pathed, Measured, Compared, Equated, Classed, Tested, Aliased, is_root, is_simple, is_equality, goes_on, truth_kind, path_sum}
use Rattle.jp_parse_expr.proofs.Signs.{sign_is, sign_is_no}
use Rattle.jp_parse_expr.proofs.GuardSums.{compared_wrong, compared_fails, compared_found, null_found, equated_fails, equated_found}
use Rattle.jp_parse_expr.proofs.GuardAtoms.{class_alone, name_wrong, class_named, tested_wrong, tested_gives, aliased_wrong, aliased_found, measured_fails, measured_gives, as_gives, at_gives, equal_gives, sum_gives, flag_found}
use Rattle.jp_parse_expr.proofs.GuardWholes.{path_atom_fails, path_atom_gives, sums_fails, sums_gives, truth_found}
use Rattle.jp_parse_expr.proofs.atom.compared.Goals as goal

pub returns-in_err-right-clause-gives : goal.returns-in_err-right-clause-gives
returns-in_err-right-clause-gives c =
    let p = err_from_is_err_and c.from_residual.result c.from_residual.ensures.1 in
    let h : IsSign c.in-Sign.sign c.front.result.0.now = sym c.kind_of.ensures ∙ c.in-Sign.is in
    rw (p.1, p.2) (compared_fails c.args.place c.args.left c.front.result.0.now c.front.result.1.now c.args.tokens.now c.front.ensures.split c.in-Sign.sign c.in_err-right.field-0.0 h (sym c.is_comparison.ensures ∙ c.if-not-is_comparison.false) c.in_err-right.ensures.gives)

pub returns-clause-gives : goal.returns-clause-gives
returns-clause-gives c =
    let h : IsSign c.in-Sign.sign c.front.result.0.now = sym c.kind_of.ensures ∙ c.in-Sign.is in
    subst (λ (x : GuardExpr). Found (Compared c.args.place c.args.left) (λ _. ends_join 0) c.args.tokens.now x c.in_ok-right.behind.now) (sym c.in_ok-tree.ensures)
    (compared_found c.args.place c.args.left c.front.result.0.now c.front.result.1.now c.args.tokens.now c.front.ensures.split c.in-Sign.sign c.in_ok-right.right c.in_ok-right.behind.now h (sym c.is_comparison.ensures ∙ c.if-not-is_comparison.false) c.in_ok-right.ensures.gives)

pub returns-then-not-is_comparison-clause-gives : goal.returns-then-not-is_comparison-clause-gives
returns-then-not-is_comparison-clause-gives c =
    let h : IsSign c.in-Sign.sign c.front.result.0.now = sym c.kind_of.ensures ∙ c.in-Sign.is in
    compared_wrong c.args.place c.args.left c.front.result.0.now c.front.result.1.now c.args.tokens.now c.front.ensures.split c.refused-then-not-is_comparison.result
    (λ b h' i. let same : c.in-Sign.sign ≡ b = cc in let g : is_comparison b ≡ false = subst (λ (x : ℕ). is_comparison x ≡ false) same (sym c.is_comparison.ensures ∙ c.if-not-is_comparison.true) in cc) c.refused-then-not-is_comparison.ensures

pub returns-in_default-clause-gives : goal.returns-in_default-clause-gives
returns-in_default-clause-gives c =
    compared_wrong c.args.place c.args.left c.front.result.0.now c.front.result.1.now c.args.tokens.now c.front.ensures.split c.refused.result (λ b h i. c.in_default.not-Sign b (c.kind_of.ensures ∙ h)) c.refused.ensures
