use Rattle.gen_code.proofs.Written.{labels_from, laid_is}
use Rattle.gen_code.proofs.lay.lay_with_places.Goals as goal

pub assemble-requires-clause-labelled : goal.assemble-requires-clause-labelled
assemble-requires-clause-labelled c = rw c.as_slice.ensures.value (labels_from c.args.body.now.labels c.args.body.now.lines.items c.requires)

pub returns-clause-members : goal.returns-clause-members
returns-clause-members c =
    laid_is c.items_stand.ensures c.args.body.now.labels c.args.body.now.lines.items c.args.pool.now _ c.args.max_stack c.args.locals c.in_ok-code.code c.requires
    (rw (c.as_slice.ensures.value, c.from.ensures) at c.in_ok-code.ensures.code)
