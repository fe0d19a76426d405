use Rattle.std.proofs.Common.{◌≡◌, ℕ, ◌+◌, ◌-◌, ◌<◌, ◌≤◌, length, drop, List, sym, ap, ◌∙◌, subst, rules, arith}
use Rattle.std.proofs.lemmas.Result.{err_from_is_err_and}
use Rattle.std.proofs.lemmas.List.{take_rest}
use Rattle.jp_ast.specs.declared.expr.Expr.{Expr}
use Rattle.jp_grammar.specs.Kinds.{Tokens}
use Rattle.jp_grammar.specs.Expressions.{Args}
use Rattle.jp_grammar.specs.Behind.{ends_primary}
use Rattle.jp_grammar.specs.Reading.{Found}
use Rattle.jp_grammar.specs.Depth.{depth_of_all}
use Rattle.jp_parse_expr.proofs.Positions.{rest_at, text_long}
use Rattle.jp_parse_expr.proofs.Runs.{text_drop}
use Rattle.jp_parse_expr.proofs.expression.parse_args.Goals as goal

pub args-requires : goal.args-requires
args-requires c = record { text = rw take_rest (text_drop c.args.at c.args.tokens.now c.requires.text c.requires.at) }

pub returns-in_err-list : goal.returns-in_err-list
returns-in_err-list c =
    let p = err_from_is_err_and c.from_residual.result c.from_residual.ensures.1 in
    rw (p.1, p.2) (rw take_rest at c.in_err-list.ensures.gives)

pub returns : goal.returns
returns c =
    let g = c.in_ok-list.ensures.gives in
    let found : Found Args (λ _. ends_primary) (drop c.args.at c.args.tokens.now) c.in_ok-list.list c.in_ok-list.rest.now = rw take_rest at g.0 in
    let back = rest_at c.args.at c.args.tokens.now found.front c.in_ok-list.rest.now found.split in
    let long = text_long c.in_ok-list.rest.now c.in_ok-list.ensures.rest.0 in (
      subst (λ (y : Tokens). Found Args (λ _. ends_primary) (drop c.args.at c.args.tokens.now) c.in_ok-list.list y) (sym back) found,
      omega (arith, g.1, g.2),
      omega (arith, long, c.requires.at),
    )
