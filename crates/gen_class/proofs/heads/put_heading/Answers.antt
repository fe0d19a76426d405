use Rattle.std.proofs.lemmas.Result.{err_from_is_err_and}
use Rattle.gen_class.proofs.Parts.{first_fails, second_fails}
use Rattle.gen_class.proofs.heads.put_heading.Goals as goal

pub returns-in_err-this_class-clause-refused : goal.returns-in_err-this_class-clause-refused
returns-in_err-this_class-clause-refused c =
    let p = err_from_is_err_and c.from_residual.result c.from_residual.ensures.1 in
    rw (p.1, p.2) (first_fails c.args.pool.now c.args.pool.now c.args.head.now c.in_err-this_class.field-0.0 c.in_err-this_class.ensures.refused)

pub returns-in_err-super_class-clause-refused : goal.returns-in_err-super_class-clause-refused
returns-in_err-super_class-clause-refused c =
    let p = err_from_is_err_and c.from_residual-in_err-super_class.result c.from_residual-in_err-super_class.ensures.1 in
    rw (p.1, p.2) (second_fails c.args.pool.now c.class_index.new.pool c.args.head.now c.in_err-super_class.field-0.0 c.in_ok-this_class.ensures.asked c.in_err-super_class.ensures.refused)
