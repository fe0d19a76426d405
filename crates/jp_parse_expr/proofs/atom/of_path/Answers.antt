use Rattle.std.proofs.Common.{◌≡◌, ℕ, ◌≤◌, ◌==◌, ◌||◌, Bool, true, false, IsTrue, List, [], ◌∷◌, ◌++◌, length, Option, Some, None, Ok, Err, inl, inr, refl, sym, ap, ◌∙◌, subst, arith}
use Rattle.std.proofs.lemmas.Result.{err_from_is_err_and}
use Rattle.jp_ast.specs.declared.sign.TheConstants as sign
use Rattle.jp_ast.specs.declared.guard.GuardExpr.{GuardExpr}
use Rattle.jp_ast.specs.declared.guard.Summand.{Summand}
use Rattle.jp_grammar.specs.declared.kind.Kind.TheVariants as k
use Rattle.jp_grammar.specs.Kinds.{Is, IsSign, IsName, Tokens, kind_of_token}
use Rattle.jp_grammar.specs.Guards.{Atom, Lin, Path, is_comparison}
use Rattle.jp_grammar.specs.Reading.{Found, Fails, Begins}
use Rattle.jp_parse_expr.specs.BehindGuards.{ends_join, ends_sum, ends_path}
use Rattle.jp_parse_expr.specs.GuardParts.{GivesAll, Pathed, Measured, Compared, Equated, Classed, Tested, Aliased, is_root, is_simple, is_equality, goes_on, truth_kind, path_sum}
use Rattle.jp_parse_expr.proofs.Signs.{sign_is, sign_is_no}
use Rattle.jp_parse_expr.proofs.GuardSums.{compared_wrong, compared_fails, compared_found, null_found, equated_fails, equated_found}
use Rattle.jp_parse_expr.proofs.GuardAtoms.{class_alone, name_wrong, class_named, tested_wrong, tested_gives, aliased_wrong, aliased_found, measured_fails, measured_gives, as_gives, at_gives, equal_gives, sum_gives, flag_found}
use Rattle.jp_parse_expr.proofs.GuardWholes.{path_atom_fails, path_atom_gives, sums_fails, sums_gives, truth_found}
use Rattle.jp_parse_expr.proofs.atom.of_path.Goals as goal

pub returns-in_err-path-clause-gives : goal.returns-in_err-path-clause-gives
returns-in_err-path-clause-gives c =
    let p = err_from_is_err_and c.from_residual.result c.from_residual.ensures.1 in
    rw (p.1, p.2) (path_atom_fails c.args.tokens.now c.in_err-path.field-0.0 c.requires.begins c.in_err-path.ensures.gives)

pub returns-clause-gives : goal.returns-clause-gives
returns-clause-gives c = path_atom_gives c.args.tokens.now c.in_ok-path.behind.now c.in_ok-path.path c.pathed.result c.requires.begins c.in_ok-path.ensures.gives c.pathed.ensures.gives
