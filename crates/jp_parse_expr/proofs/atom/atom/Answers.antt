use Rattle.std.proofs.Common.{◌≡◌, ℕ, ◌≤◌, ◌==◌, ◌||◌, Bool, true, false, IsTrue, List, [], ◌∷◌, ◌++◌, length, Option, Some, None, Ok, Err, inl, inr, refl, sym, ap, ◌∙◌, subst, arith}
use Rattle.std.proofs.lemmas.Result.{err_from_is_err_and}
use Rattle.std.proofs.lemmas.Grind.{common_steps}
use Rattle.jp_ast.specs.declared.sign.TheConstants as sign
use Rattle.jp_ast.specs.declared.guard.GuardExpr.{GuardExpr}
use Rattle.jp_ast.specs.declared.guard.Summand.{Summand}
use Rattle.jp_grammar.specs.declared.kind.Kind.TheVariants as k
use Rattle.jp_grammar.specs.Kinds.{Is, IsSign, IsName, Tokens, kind_of_token}
use Rattle.jp_grammar.specs.Guards.{Atom, Lin, Path, is_comparison}
use Rattle.jp_grammar.specs.Reading.{Found, Fails, Begins}
use Rattle.jp_parse_expr.specs.BehindGuards.{ends_join, ends_sum, ends_path}
use Rattle.jp_parse_expr.specs.GuardParts.{GivesAll, Pathed, Measured, Compared, Equated, Classed, Tested, Aliased, is_root, is_simple, is_equality, goes_on, truth_kind, path_sum}
use Rattle.jp_parse_expr.proofs.Signs.{sign_is, sign_is_no}
use Rattle.jp_parse_expr.proofs.GuardSums.{compared_wrong, compared_fails, compared_found, null_found, equated_fails, equated_found}
use Rattle.jp_parse_expr.proofs.GuardAtoms.{class_alone, name_wrong, class_named, tested_wrong, tested_gives, aliased_wrong, aliased_found, measured_fails, measured_gives, as_gives, at_gives, equal_gives, sum_gives, flag_found}
use Rattle.jp_parse_expr.proofs.GuardWholes.{path_atom_fails, path_atom_gives, sums_fails, sums_gives, truth_found}
use Rattle.jp_parse_expr.proofs.atom.atom.Goals as goal

pub returns-in-True-clause-gives : goal.returns-in-True-clause-gives
returns-in-True-clause-gives c = subst (λ (x : Tokens). GivesAll Atom (ends_join 0) x c.truth.result) (sym c.front.ensures.split) c.truth.ensures.gives

pub returns-in-False-clause-gives : goal.returns-in-False-clause-gives
returns-in-False-clause-gives c = subst (λ (x : Tokens). GivesAll Atom (ends_join 0) x c.truth-in-False.result) (sym c.front.ensures.split) c.truth-in-False.ensures.gives
