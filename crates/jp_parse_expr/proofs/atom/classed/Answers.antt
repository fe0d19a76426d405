use Rattle.std.proofs.Common.{◌≡◌, ℕ, ◌≤◌, ◌==◌, ◌||◌, Bool, true, false, IsTrue, List, [], ◌∷◌, ◌++◌, length, Option, Some, None, Ok, Err, inl, inr, refl, sym, ap, ◌∙◌, subst, arith}
use Rattle.std.proofs.lemmas.Result.{err_from_is_err_and}
use Rattle.std.proofs.lemmas.Grind.{common_steps}
use Rattle.jp_ast.specs.declared.sign.TheConstants as sign
use Rattle.jp_ast.specs.declared.guard.GuardExpr.{GuardExpr}
use Rattle.jp_ast.specs.declared.guard.Summand.{Summand}
use Rattle.jp_grammar.specs.declared.kind.Kind.TheVariants as k
use Rattle.jp_grammar.specs.Kinds.{Is, IsSign, IsName, Tokens, kind_of_token}
use Rattle.jp_grammar.specs.Guards.{Atom, Lin, Path, is_comparison}
use Rattle.jp_grammar.specs.Reading.{Found, Fails, Begins}
use Rattle.jp_parse_expr.specs.BehindGuards.{ends_join, ends_sum, ends_path}
use Rattle.jp_parse_expr.specs.GuardParts.{GivesAll, Pathed, Measured, Compared, Equated, Classed, Tested, Aliased, is_root, is_simple, is_equality, goes_on, truth_kind, path_sum}
use Rattle.jp_parse_expr.proofs.Signs.{sign_is, sign_is_no}
use Rattle.jp_parse_expr.proofs.GuardSums.{compared_wrong, compared_fails, compared_found, null_found, equated_fails, equated_found}
use Rattle.jp_parse_expr.proofs.GuardAtoms.{class_alone, name_wrong, class_named, tested_wrong, tested_gives, aliased_wrong, aliased_found, measured_fails, measured_gives, as_gives, at_gives, equal_gives, sum_gives, flag_found}
use Rattle.jp_parse_expr.proofs.GuardWholes.{path_atom_fails, path_atom_gives, sums_fails, sums_gives, truth_found}
use Rattle.jp_parse_expr.proofs.atom.classed.Goals as goal

pub returns-then-ne-clause-gives : goal.returns-then-ne-clause-gives
returns-then-ne-clause-gives c =
    let other : Is k.As c.front.result.0.now → ⊥ = grind (arith, common_steps) in
    subst (λ (x : GuardExpr). Found (Classed c.args.path c.args.class) (λ _. ends_join 0) c.args.tokens.now x c.args.tokens.now) (sym c.in_ok-tree.ensures)
    (class_alone c.args.path c.args.class c.front.result.0.now c.front.result.1.now c.args.tokens.now c.front.ensures.split other)

pub returns-in_err-name_of-clause-gives : goal.returns-in_err-name_of-clause-gives
returns-in_err-name_of-clause-gives c =
    let p = err_from_is_err_and c.from_residual-in_err-name_of.result c.from_residual-in_err-name_of.ensures.1 in
    let h : Is k.As c.front.result.0.now = grind (arith, common_steps) in
    rw (p.1, p.2) (name_wrong c.args.path c.args.class c.front.result.0.now c.front-2.result.0.now c.front-2.result.1.now c.front.result.1.now c.args.tokens.now c.front.ensures.split c.front-2.ensures.split h c.in_err-name_of.field-0.0 c.in_err-name_of.ensures)

pub returns-clause-gives : goal.returns-clause-gives
returns-clause-gives c =
    let h : Is k.As c.front.result.0.now = grind (arith, common_steps) in
    subst (λ (x : GuardExpr). Found (Classed c.args.path c.args.class) (λ _. ends_join 0) c.args.tokens.now x c.front-2.result.1.now) (sym c.in_ok-tree-2.ensures)
    (class_named c.args.path c.args.class c.front.result.0.now c.front-2.result.0.now c.front-2.result.1.now c.front.result.1.now c.args.tokens.now c.front.ensures.split c.front-2.ensures.split h c.in_ok-name_of.field-0 c.in_ok-name_of.ensures)
