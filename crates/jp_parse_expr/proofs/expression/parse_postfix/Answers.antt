use Rattle.std.proofs.Common.{◌≡◌, ℕ, ◌+◌, ◌-◌, ◌<◌, ◌≤◌, length, drop, sym, ap, ◌∙◌, subst, rules, arith}
use Rattle.std.proofs.lemmas.Result.{err_from_is_err_and}
use Rattle.std.proofs.lemmas.List.{take_rest}
use Rattle.jp_ast.specs.declared.expr.Expr.{Expr}
use Rattle.jp_grammar.specs.Kinds.{Tokens}
use Rattle.jp_grammar.specs.Expressions.{Postfix}
use Rattle.jp_grammar.specs.Behind.{ends_level}
use Rattle.jp_grammar.specs.Reading.{Found}
use Rattle.jp_grammar.specs.Depth.{depth}
use Rattle.jp_parse_expr.proofs.Positions.{rest_at, text_long}
use Rattle.jp_parse_expr.proofs.Runs.{text_drop}
use Rattle.jp_parse_expr.proofs.expression.parse_postfix.Goals as goal

pub stepped-requires : goal.stepped-requires
stepped-requires c = record { text = rw take_rest (text_drop c.args.at c.args.tokens.now c.requires.text c.requires.at); room = omega arith }

pub returns-in_err-tree : goal.returns-in_err-tree
returns-in_err-tree c =
    let p = err_from_is_err_and c.from_residual.result c.from_residual.ensures.1 in
    rw (p.1, p.2) (rw take_rest at c.in_err-tree.ensures.gives)

pub returns : goal.returns
returns c =
    let g = c.in_ok-tree.ensures.gives in
    let found : Found Postfix (λ _. ends_level 0) (drop c.args.at c.args.tokens.now) c.in_ok-tree.tree c.in_ok-tree.rest.now = rw take_rest at g.0 in
    let back = rest_at c.args.at c.args.tokens.now found.front c.in_ok-tree.rest.now found.split in
    let same : c.into_inner.result ≡ c.in_ok-tree.tree = c.into_inner.ensures in
    let long = text_long c.in_ok-tree.rest.now c.in_ok-tree.ensures.rest.0 in
    let deep : depth c.into_inner.result ≡ depth c.in_ok-tree.tree = ap depth same in (
      subst (λ (x : Expr). Found Postfix (λ _. ends_level 0) (drop c.args.at c.args.tokens.now) x (drop (length c.args.tokens.now - length c.in_ok-tree.rest.now) c.args.tokens.now)) (sym same)
          (subst (λ (y : Tokens). Found Postfix (λ _. ends_level 0) (drop c.args.at c.args.tokens.now) c.in_ok-tree.tree y) (sym back) found),
      omega (arith, deep, g.1, g.2),
      omega (arith, long, c.requires.at),
    )
