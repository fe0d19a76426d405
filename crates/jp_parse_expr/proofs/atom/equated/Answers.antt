use Rattle.std.proofs.Common.{◌≡◌, ℕ, ◌≤◌, ◌==◌, ◌||◌, Bool, true, false, IsTrue, List, [], ◌∷◌, ◌++◌, length, Option, Some, None, Ok, Err, inl, inr, refl, sym, ap, ◌∙◌, subst, arith}
use Rattle.std.proofs.lemmas.Result.{err_from_is_err_and}
use Rattle.std.proofs.lemmas.Grind.{common_steps}
use Rattle.jp_ast.specs.declared.sign.TheConstants as sign
use Rattle.jp_ast.specs.declared.guard.GuardExpr.{GuardExpr}
use Rattle.jp_ast.specs.declared.guard.Summand.{Summand}
use Rattle.jp_grammar.specs.declared.kind.Kind.TheVariants as k
use Rattle.jp_grammar.specs.Kinds.{Is, IsSign, IsName, Tokens, kind_of_token}
use Rattle.jp_grammar.specs.Guards.{Atom, Lin, Path, is_comparison}
use Rattle.jp_grammar.specs.Reading.{Found, Fails, Begins}
use Rattle.jp_parse_expr.specs.BehindGuards.{ends_join, ends_sum, ends_path}
use Rattle.jp_parse_expr.specs.GuardParts.{GivesAll, Pathed, Measured, Compared, Equated, Classed, Tested, Aliased, is_root, is_simple, is_equality, goes_on, truth_kind, path_sum, compared_at}
use Rattle.jp_parse_expr.proofs.Signs.{sign_is, sign_is_no}
use Rattle.jp_parse_expr.proofs.GuardSums.{compared_wrong, compared_fails, compared_found, null_found, equated_fails, equated_found}
use Rattle.jp_parse_expr.proofs.GuardAtoms.{class_alone, name_wrong, class_named, tested_wrong, tested_gives, aliased_wrong, aliased_found, measured_fails, measured_gives, as_gives, at_gives, equal_gives, sum_gives, flag_found}
use Rattle.jp_parse_expr.proofs.GuardWholes.{path_atom_fails, path_atom_gives, sums_fails, sums_gives, truth_found}
use Rattle.jp_parse_expr.proofs.atom.equated.Goals as goal

pub returns-in_err-right-clause-gives : goal.returns-in_err-right-clause-gives
returns-in_err-right-clause-gives c =
    let p = err_from_is_err_and c.from_residual-in_err-right.result c.from_residual-in_err-right.ensures.1 in
    let other : Is k.Null c.front.result.0.now → ⊥ = grind (arith, common_steps) in
    rw (p.1, p.2) (equated_fails c.args.path c.args.sign c.front.result.0.now c.front.result.1.now c.args.tokens.now c.front.ensures.split c.in_err-right.field-0.0 other c.in_err-right.ensures.gives)

pub returns-then-eq-clause-gives : goal.returns-then-eq-clause-gives
returns-then-eq-clause-gives c =
    let h : Is k.Null c.front.result.0.now = grind (arith, common_steps) in
    subst (λ (x : GuardExpr). Found (Equated c.args.path c.args.sign) (λ _. ends_join 0) c.args.tokens.now x c.front.result.1.now) (sym c.in_ok-tree.ensures)
    (null_found c.args.path c.args.sign c.front.result.0.now c.front.result.1.now c.args.tokens.now c.front.ensures.split h)

pub returns-clause-gives : goal.returns-clause-gives
returns-clause-gives c =
    let other : Is k.Null c.front.result.0.now → ⊥ = grind (arith, common_steps) in
    let tree = c.in_ok-tree-2.ensures ∙ ap (λ (x : List Summand). compared_at c.args.path.place x c.args.sign c.in_ok-right.right) c.in_ok-left.ensures in
    subst (λ (x : GuardExpr). Found (Equated c.args.path c.args.sign) (λ _. ends_join 0) c.args.tokens.now x c.in_ok-right.behind.now) (sym tree)
    (equated_found c.args.path c.args.sign c.front.result.0.now c.front.result.1.now c.args.tokens.now c.front.ensures.split c.in_ok-right.right c.in_ok-right.behind.now other c.in_ok-right.ensures.gives)
