use Rattle.std.proofs.lemmas.Result.{err_from_is_err_and}
use Rattle.jp_parse_decl.proofs.ConstructorFacts.{args_passed_fails, args_block_fails, args_found}
use Rattle.jp_parse_decl.proofs.body.constructor_args.Goals as goal

pub returns-in_err-args-clause-gives : goal.returns-in_err-args-clause-gives
returns-in_err-args-clause-gives c =
    let p = err_from_is_err_and c.from_residual.result c.from_residual.ensures.1 in
    rw (p.1, p.2) (args_passed_fails c.args.tokens.now c.in_err-args.field-0.0 c.in_err-args.ensures.gives)

pub returns-in_err-block-clause-gives : goal.returns-in_err-block-clause-gives
returns-in_err-block-clause-gives c =
    let p = err_from_is_err_and c.from_residual-in_err-block.result c.from_residual-in_err-block.ensures.1 in
    rw (p.1, p.2) (args_block_fails c.args.tokens.now c.in_ok-args.rest.now c.in_ok-args.args c.in_ok-args.ensures.gives.0 c.in_ok-args.ensures.gives.1 c.in_err-block.field-0.0 c.in_err-block.ensures.gives)

pub returns-clause-gives : goal.returns-clause-gives
returns-clause-gives c =
    args_found c.args.tokens.now c.in_ok-args.rest.now c.in_ok-args.args c.in_ok-args.ensures.gives.0 c.in_ok-args.ensures.gives.1 c.in_ok-block.block c.in_ok-block.rest c.in_ok-block.ensures.gives.0 c.in_ok-block.ensures.gives.1
