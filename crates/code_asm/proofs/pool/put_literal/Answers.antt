use Rattle.std.proofs.lemmas.Result.{err_from_is_err_and}
use Rattle.code_asm.specs.Entries.{consts_of}
use Rattle.code_asm.proofs.Chains.{text_fails, text_puts}
use Rattle.code_asm.proofs.pool.put_literal.Goals as goal

pub returns-in_err-text-clause-put : goal.returns-in_err-text-clause-put
returns-in_err-text-clause-put c =
    let p = err_from_is_err_and c.from_residual.result c.from_residual.ensures.1 in
    rw (p.1, p.2) (text_fails (consts_of c.args.entries.now.keys) c.args.bytes.now c.in_err-text.field-0.0 c.in_err-text.ensures.put)

pub returns-clause-put : goal.returns-clause-put
returns-clause-put c =
    text_puts (consts_of c.args.entries.now.keys) c.args.bytes.now c.put_text.new.entries.keys c.put.new.entries.keys c.in_ok-text.text c.put.result c.in_ok-text.ensures.put c.put.ensures.put
