use Rattle.std.proofs.lemmas.Result.{err_from_is_err_and}
use Rattle.gen_class.specs.Asked.{with_class}
use Rattle.gen_class.proofs.Grows.{one_class_grows}
use Rattle.gen_class.proofs.Parts.{part_fails}
use Rattle.gen_class.proofs.heads.interface_indices.Goals as goal

pub returns-in_err-class_index-clause-refused : goal.returns-in_err-class_index-clause-refused
returns-in_err-class_index-clause-refused c =
    let p = err_from_is_err_and c.from_residual.result c.from_residual.ensures.1 in
    rw (p.1, p.2)
    (part_fails with_class one_class_grows c.args.pool.now c.args.names.now c.loop-name.name-index c.name-item.result c.loop-name-test.true c.name-item.is c.loop-name.pool c.loop-name.invariant.asked c.in_err-class_index.field-0.0
    c.in_err-class_index.ensures.refused)
