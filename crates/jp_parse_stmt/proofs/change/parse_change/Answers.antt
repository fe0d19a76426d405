use Rattle.std.proofs.Common.{◌≡◌, ◌-◌, length, drop, sym, ap, subst, arith}
use Rattle.std.proofs.lemmas.List.{take_rest}
use Rattle.jp_ast.specs.declared.stmt.Stmt.{Stmt}
use Rattle.jp_grammar.specs.Kinds.{Tokens}
use Rattle.jp_grammar.specs.Depth.{deepest}
use Rattle.jp_grammar.specs.Statements.{Change}
use Rattle.jp_grammar.specs.Reading.{Found}
use Rattle.jp_parse_expr.proofs.Positions.{rest_at, text_long}
use Rattle.jp_parse_expr.proofs.Runs.{text_drop}
use Rattle.jp_parse_stmt.specs.Behind.{ends_change}
use Rattle.jp_parse_stmt.proofs.change.parse_change.Goals as goal

pub change-requires : goal.change-requires
change-requires c = rw take_rest (text_drop c.args.at c.args.tokens.now c.requires.text c.requires.at)

pub returns : goal.returns
returns c =
    let g = c.in_ok-tree.ensures.gives in
    let found : Found Change (λ _. ends_change) (drop c.args.at c.args.tokens.now) c.in_ok-tree.tree c.in_ok-tree.rest.now = rw take_rest at g.0 in
    let back = rest_at c.args.at c.args.tokens.now found.front c.in_ok-tree.rest.now found.split in
    let same : c.into_inner.result ≡ c.in_ok-tree.tree = c.into_inner.ensures in
    let long = text_long c.in_ok-tree.rest.now c.in_ok-tree.ensures.rest.0 in
    let deep : deepest c.into_inner.result ≡ deepest c.in_ok-tree.tree = ap deepest same in (
      subst (λ (x : Stmt). Found Change (λ _. ends_change) (drop c.args.at c.args.tokens.now) x (drop (length c.args.tokens.now - length c.in_ok-tree.rest.now) c.args.tokens.now)) (sym same)
          (subst (λ (y : Tokens). Found Change (λ _. ends_change) (drop c.args.at c.args.tokens.now) c.in_ok-tree.tree y) (sym back) found),
      omega (arith, deep, g.1),
      omega (arith, long, c.requires.at),
    )
