use Rattle.std.proofs.lemmas.Result.{err_from_is_err_and}
use Rattle.code_asm.specs.Entries.{consts_of}
use Rattle.code_asm.proofs.Chains.{class_fails, class_puts}
use Rattle.code_asm.proofs.pool.put_class.Goals as goal

pub returns-in_err-name-clause-put : goal.returns-in_err-name-clause-put
returns-in_err-name-clause-put c =
    let p = err_from_is_err_and c.from_residual.result c.from_residual.ensures.1 in
    rw (p.1, p.2) (class_fails (consts_of c.args.entries.now.keys) c.args.name.now c.in_err-name.field-0.0 c.in_err-name.ensures.put)

pub returns-clause-put : goal.returns-clause-put
returns-clause-put c =
    class_puts (consts_of c.args.entries.now.keys) c.args.name.now c.put_text.new.entries.keys c.put.new.entries.keys c.in_ok-name.name c.put.result c.in_ok-name.ensures.put c.put.ensures.put
