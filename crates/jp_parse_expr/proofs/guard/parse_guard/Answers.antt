use Rattle.std.proofs.Common.{◌≡◌, ℕ, ◌+◌, ◌-◌, ◌<◌, ◌≤◌, length, drop, sym, ap, ◌∙◌, subst, rules, arith}
use Rattle.std.proofs.lemmas.Result.{err_from_is_err_and}
use Rattle.std.proofs.lemmas.List.{take_rest}
use Rattle.jp_ast.specs.declared.guard.GuardExpr.{GuardExpr}
use Rattle.jp_grammar.specs.Kinds.{Tokens}
use Rattle.jp_grammar.specs.Guards.{Guard, Level}
use Rattle.jp_grammar.specs.Reading.{Found}
use Rattle.jp_grammar.specs.Depth.{guard_depth}
use Rattle.jp_parse_expr.specs.BehindGuards.{ends_guard, ends_join}
use Rattle.jp_parse_expr.proofs.Positions.{rest_at, text_long}
use Rattle.jp_parse_expr.proofs.Runs.{text_drop}
use Rattle.jp_parse_expr.proofs.GuardLevels.{guard_found, guard_fails}
use Rattle.jp_parse_expr.proofs.guard.parse_guard.Goals as goal

pub level_of-requires : goal.level_of-requires
level_of-requires c = record { text = rw take_rest (text_drop c.args.at c.args.tokens.now c.requires.text c.requires.at); room = omega arith }

pub returns-in_err-tree : goal.returns-in_err-tree
returns-in_err-tree c =
    let p = err_from_is_err_and c.from_residual.result c.from_residual.ensures.1 in
    rw (p.1, p.2) (guard_fails 200 (drop c.args.at c.args.tokens.now) c.in_err-tree.field-0.0 (rw take_rest at c.in_err-tree.ensures.gives))

pub returns : goal.returns
returns c =
    let g = c.in_ok-tree.ensures.gives in
    let level : Found (Level 2) (λ _. ends_join 2) (drop c.args.at c.args.tokens.now) c.in_ok-tree.tree c.in_ok-tree.rest.now = rw take_rest at g.0 in
    let found : Found Guard (λ _. ends_guard) (drop c.args.at c.args.tokens.now) c.in_ok-tree.tree c.in_ok-tree.rest.now = guard_found (drop c.args.at c.args.tokens.now) c.in_ok-tree.rest.now c.in_ok-tree.tree level in
    let back = rest_at c.args.at c.args.tokens.now found.front c.in_ok-tree.rest.now found.split in
    let same : c.into_inner.result ≡ c.in_ok-tree.tree = c.into_inner.ensures in
    let long = text_long c.in_ok-tree.rest.now c.in_ok-tree.ensures.rest.0 in
    let deep : guard_depth c.into_inner.result ≡ guard_depth c.in_ok-tree.tree = ap guard_depth same in (
      subst (λ (x : GuardExpr). Found Guard (λ _. ends_guard) (drop c.args.at c.args.tokens.now) x (drop (length c.args.tokens.now - length c.in_ok-tree.rest.now) c.args.tokens.now)) (sym same)
          (subst (λ (y : Tokens). Found Guard (λ _. ends_guard) (drop c.args.at c.args.tokens.now) c.in_ok-tree.tree y) (sym back) found),
      omega (arith, deep, g.1, g.2),
      omega (arith, long, c.requires.at),
    )
