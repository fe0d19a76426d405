use Rattle.std.proofs.lemmas.Result.{err_from_is_err_and}
use Rattle.jp_parse_decl.proofs.ConstructorFacts.{bare_fails, bare_found}
use Rattle.jp_parse_decl.proofs.body.bare.Goals as goal

pub returns-in_err-block-clause-gives : goal.returns-in_err-block-clause-gives
returns-in_err-block-clause-gives c =
    let p = err_from_is_err_and c.from_residual.result c.from_residual.ensures.1 in
    rw (p.1, p.2) (bare_fails c.args.tokens.now c.in_err-block.field-0.0 c.in_err-block.ensures.gives)

pub returns-clause-gives : goal.returns-clause-gives
returns-clause-gives c =
    bare_found c.args.tokens.now c.in_ok-block.rest.now c.in_ok-block.block c.in_ok-block.ensures.gives.0 c.in_ok-block.ensures.gives.1
