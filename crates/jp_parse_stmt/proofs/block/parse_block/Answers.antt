use Rattle.std.proofs.Common.{◌≡◌, ◌-◌, ◌≤◌, List, [], length, drop, sym, ap, subst, arith}
use Rattle.std.proofs.lemmas.Result.{err_from_is_err_and}
use Rattle.std.proofs.lemmas.List.{take_rest}
use Rattle.jp_grammar.specs.Kinds.{Tokens}
use Rattle.jp_grammar.specs.Statements.{Block}
use Rattle.jp_grammar.specs.Reading.{Found}
use Rattle.jp_parse_expr.proofs.Positions.{rest_at, text_long}
use Rattle.jp_parse_expr.proofs.Runs.{text_drop}
use Rattle.jp_parse_stmt.specs.Behind.{anything}
use Rattle.jp_parse_stmt.proofs.StmtBlocks.{block_within, small_within}
use Rattle.jp_parse_stmt.proofs.block.parse_block.Goals as goal

pub block-requires : goal.block-requires
block-requires c = record { text = rw take_rest (text_drop c.args.at c.args.tokens.now c.requires.text c.requires.at); room = omega arith }

pub returns-in_err-list : goal.returns-in_err-list
returns-in_err-list c =
    let p = err_from_is_err_and c.from_residual.result c.from_residual.ensures.1 in
    rw (p.1, p.2) (block_within (drop c.args.at c.args.tokens.now) c.in_err-list.field-0.0 (rw take_rest at c.in_err-list.ensures.gives))

pub returns : goal.returns
returns c =
    let g = c.in_ok-list.ensures.gives in
    let found : Found (Block []) (λ _. anything) (drop c.args.at c.args.tokens.now) c.in_ok-list.list c.in_ok-list.rest.now = rw take_rest at g.0 in
    let back = rest_at c.args.at c.args.tokens.now found.front c.in_ok-list.rest.now found.split in
    let long = text_long c.in_ok-list.rest.now c.in_ok-list.ensures.rest.0 in (
      subst (λ (y : Tokens). Found (Block []) (λ _. anything) (drop c.args.at c.args.tokens.now) c.in_ok-list.list y) (sym back) found,
      small_within c.in_ok-list.list g.1,
      omega (arith, long, c.requires.at),
    )
