use Rattle.std.proofs.Common.{drop, sym, subst, arith}
use Rattle.std.proofs.lemmas.List.{take_rest}
use Rattle.jp_grammar.specs.Kinds.{Tokens}
use Rattle.jp_grammar.specs.Statements.{OneType}
use Rattle.jp_grammar.specs.Reading.{Found}
use Rattle.jp_parse_expr.proofs.Positions.{rest_at, text_long}
use Rattle.jp_parse_expr.proofs.Runs.{text_drop}
use Rattle.jp_parse_stmt.specs.Behind.{ends_type}
use Rattle.jp_parse_stmt.proofs.types.parse_type.Goals as goal

pub one_type-requires : goal.one_type-requires
one_type-requires c = rw take_rest (text_drop c.args.at c.args.tokens.now c.requires.text c.requires.at)

pub returns : goal.returns
returns c =
    let g = c.in_ok-ty.ensures.gives in
    let found : Found OneType (λ _. ends_type) (drop c.args.at c.args.tokens.now) c.in_ok-ty.ty c.in_ok-ty.rest.now = rw take_rest at g in
    let back = rest_at c.args.at c.args.tokens.now found.front c.in_ok-ty.rest.now found.split in
    let long = text_long c.in_ok-ty.rest.now c.in_ok-ty.ensures.rest.0 in (
      subst (λ (y : Tokens). Found OneType (λ _. ends_type) (drop c.args.at c.args.tokens.now) c.in_ok-ty.ty y) (sym back) found,
      omega (arith, long, c.requires.at),
    )
