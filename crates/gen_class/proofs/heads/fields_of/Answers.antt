use Rattle.std.proofs.lemmas.Result.{err_from_is_err_and}
use Rattle.gen_class.specs.Asked.{with_field}
use Rattle.gen_class.proofs.Grows.{field_grows}
use Rattle.gen_class.proofs.Parts.{part_fails}
use Rattle.gen_class.proofs.heads.fields_of.Goals as goal

pub returns-in_err-field_of-clause-refused : goal.returns-in_err-field_of-clause-refused
returns-in_err-field_of-clause-refused c =
    let p = err_from_is_err_and c.from_residual.result c.from_residual.ensures.1 in
    rw (p.1, p.2)
    (part_fails with_field field_grows c.args.pool.now c.args.fields.now c.loop-field.field-index c.field-item.result c.loop-field-test.true c.field-item.is c.loop-field.pool c.loop-field.invariant.asked c.in_err-field_of.field-0.0
    c.in_err-field_of.ensures.refused)
