use Rattle.std.proofs.Common.{◌≡◌, ℕ, ◌≤◌, ◌==◌, ◌||◌, Bool, true, false, IsTrue, List, [], ◌∷◌, ◌++◌, length, Option, Some, None, Ok, Err, inl, inr, refl, sym, ap, ◌∙◌, subst, arith}
use Rattle.std.proofs.lemmas.Result.{err_from_is_err_and}
use Rattle.std.proofs.lemmas.Grind.{common_steps}
use Rattle.jp_ast.specs.declared.sign.TheConstants as sign
use Rattle.jp_ast.specs.declared.guard.GuardExpr.{GuardExpr}
use Rattle.jp_ast.specs.declared.guard.Summand.{Summand}
use Rattle.jp_grammar.specs.declared.kind.Kind.TheVariants as k
use Rattle.jp_grammar.specs.Kinds.{Is, IsSign, IsName, Tokens, kind_of_token}
use Rattle.jp_grammar.specs.Guards.{Atom, Lin, Path, is_comparison}
use Rattle.jp_grammar.specs.Reading.{Found, Fails, Begins}
use Rattle.jp_parse_expr.specs.BehindGuards.{ends_join, ends_sum, ends_path}
use Rattle.jp_parse_expr.specs.GuardParts.{GivesAll, Pathed, Measured, Compared, Equated, Classed, Tested, Aliased, is_root, is_simple, is_equality, goes_on, truth_kind, path_sum}
use Rattle.jp_parse_expr.proofs.Signs.{sign_is, sign_is_no}
use Rattle.jp_parse_expr.proofs.GuardSums.{compared_wrong, compared_fails, compared_found, null_found, equated_fails, equated_found}
use Rattle.jp_parse_expr.proofs.GuardAtoms.{class_alone, name_wrong, class_named, tested_wrong, tested_gives, aliased_wrong, aliased_found, measured_fails, measured_gives, as_gives, at_gives, equal_gives, sum_gives, flag_found, no_equality}
use Rattle.jp_parse_expr.proofs.GuardWholes.{path_atom_fails, path_atom_gives, sums_fails, sums_gives, truth_found}
use Rattle.jp_parse_expr.proofs.atom.pathed.Goals as goal

pub returns-then-eq-clause-gives : goal.returns-then-eq-clause-gives
returns-then-eq-clause-gives c =
    let h : Is k.As c.front.result.0.now = grind (arith, common_steps) in
    as_gives c.args.path c.front.result.0.now c.front.result.1.now c.args.tokens.now c.front.ensures.split c.aliased.result h c.aliased.ensures.gives

pub returns-then-is_sign-clause-gives : goal.returns-then-is_sign-clause-gives
returns-then-is_sign-clause-gives c =
    at_gives c.args.path c.front.result.0.now c.front.result.1.now c.args.tokens.now c.front.ensures.split c.tested.result (sign_is sign.AT c.front.result.0.now (sym c.is_sign.ensures ∙ c.if-is_sign.true)) c.tested.ensures.gives

pub returns-then-is_sign-2-clause-gives : goal.returns-then-is_sign-2-clause-gives
returns-then-is_sign-2-clause-gives c =
    equal_gives c.args.path c.front.result.0.now c.front.result.1.now c.args.tokens.now c.front.ensures.split sign.EQUAL c.equated.result (sign_is sign.EQUAL c.front.result.0.now (sym c.is_sign-2.ensures ∙ c.if-is_sign-2.true)) refl c.equated.ensures.gives

pub returns-then-is_sign-3-clause-gives : goal.returns-then-is_sign-3-clause-gives
returns-then-is_sign-3-clause-gives c =
    equal_gives c.args.path c.front.result.0.now c.front.result.1.now c.args.tokens.now c.front.ensures.split sign.NOT_EQUAL c.equated-then-is_sign-3.result (sign_is sign.NOT_EQUAL c.front.result.0.now (sym c.is_sign-3.ensures ∙ c.if-is_sign-3.true)) refl c.equated-then-is_sign-3.ensures.gives

pub returns-then-goes_on-clause-gives : goal.returns-then-goes_on-clause-gives
returns-then-goes_on-clause-gives c =
    let no_equal : (b : ℕ) → IsSign b c.front.result.0.now → IsTrue (is_equality b) → ⊥ = no_equality c.front.result.0.now (sign_is_no sign.EQUAL c.front.result.0.now (sym c.is_sign-2.ensures ∙ c.if-is_sign-2.false)) (sign_is_no sign.NOT_EQUAL c.front.result.0.now (sym c.is_sign-3.ensures ∙ c.if-is_sign-3.false)) in
    let h : IsTrue (goes_on (kind_of_token c.front.result.0.now)) = sym (c.goes_on.ensures ∙ ap goes_on c.kind_of-2.ensures) ∙ c.if-goes_on.true in
    sum_gives c.args.path c.front.result.0.now c.front.result.1.now c.args.tokens.now c.front.ensures.split c.measured.result h no_equal c.measured.ensures.gives

pub returns-clause-gives : goal.returns-clause-gives
returns-clause-gives c =
    let no_as : Is k.As c.front.result.0.now → ⊥ = grind (arith, common_steps) in
    let no_equal : (b : ℕ) → IsSign b c.front.result.0.now → IsTrue (is_equality b) → ⊥ = no_equality c.front.result.0.now (sign_is_no sign.EQUAL c.front.result.0.now (sym c.is_sign-2.ensures ∙ c.if-is_sign-2.false)) (sign_is_no sign.NOT_EQUAL c.front.result.0.now (sym c.is_sign-3.ensures ∙ c.if-is_sign-3.false)) in
    let none : goes_on (kind_of_token c.front.result.0.now) ≡ false = sym (c.goes_on.ensures ∙ ap goes_on c.kind_of-2.ensures) ∙ c.if-goes_on.false in
    subst (λ (x : GuardExpr). Found (Pathed c.args.path) (λ _. ends_join 0) c.args.tokens.now x c.args.tokens.now) (sym c.in_ok-tree.ensures)
    (flag_found c.args.path c.front.result.0.now c.front.result.1.now c.args.tokens.now c.front.ensures.split no_as (sign_is_no sign.AT c.front.result.0.now (sym c.is_sign.ensures ∙ c.if-is_sign.false)) no_equal (λ h. let g : true ≡ false = sym h ∙ none in cc))
