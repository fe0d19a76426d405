use Rattle.std.proofs.lemmas.Result.{err_from_is_err_and}
use Rattle.code_asm.specs.Entries.{consts_of}
use Rattle.code_asm.proofs.Chains.{name_fails, descriptor_fails, name_and_type_puts}
use Rattle.code_asm.proofs.pool.put_name_and_type.Goals as goal

pub returns-in_err-name-clause-put : goal.returns-in_err-name-clause-put
returns-in_err-name-clause-put c =
    let p = err_from_is_err_and c.from_residual.result c.from_residual.ensures.1 in
    rw (p.1, p.2) (name_fails (consts_of c.args.entries.now.keys) c.args.name.now c.args.descriptor.now c.in_err-name.field-0.0 c.in_err-name.ensures.put)

pub returns-in_err-descriptor-clause-put : goal.returns-in_err-descriptor-clause-put
returns-in_err-descriptor-clause-put c =
    let p = err_from_is_err_and c.from_residual-in_err-descriptor.result c.from_residual-in_err-descriptor.ensures.1 in
    rw (p.1, p.2)
    (descriptor_fails (consts_of c.args.entries.now.keys) c.args.name.now c.args.descriptor.now c.put_text.new.entries.keys c.in_ok-name.name c.in_err-descriptor.field-0.0 c.in_ok-name.ensures.put c.in_err-descriptor.ensures.put)

pub returns-clause-put : goal.returns-clause-put
returns-clause-put c =
    name_and_type_puts (consts_of c.args.entries.now.keys) c.args.name.now c.args.descriptor.now c.put_text.new.entries.keys c.put_text-2.new.entries.keys c.put.new.entries.keys
    c.in_ok-name.name c.in_ok-descriptor.descriptor c.put.result c.in_ok-name.ensures.put c.in_ok-descriptor.ensures.put c.put.ensures.put
