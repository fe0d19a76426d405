use Rattle.std.proofs.Common.{subst}
use Rattle.std.proofs.lemmas.Result.{err_from_is_err_and}
use Rattle.code_asm.specs.Held.{hold}
use Rattle.code_asm.specs.Entries.{consts_of, kind_of, Puts}
use Rattle.code_asm.proofs.Chains.{owner_fails, type_fails, member_puts}
use Rattle.code_asm.proofs.pool.put_member.Goals as goal

pub returns-in_err-class-clause-put : goal.returns-in_err-class-clause-put
returns-in_err-class-clause-put c =
    let p = err_from_is_err_and c.from_residual.result c.from_residual.ensures.1 in
    rw (p.1, p.2)
    (owner_fails (kind_of c.args.kind) (consts_of c.args.entries.now.keys) c.args.class.now c.args.name.now c.args.descriptor.now c.in_err-class.field-0.0 c.in_err-class.ensures.put)

pub returns-in_err-member-clause-put : goal.returns-in_err-member-clause-put
returns-in_err-member-clause-put c =
    let p = err_from_is_err_and c.from_residual-in_err-member.result c.from_residual-in_err-member.ensures.1 in
    rw (p.1, p.2)
    (type_fails (kind_of c.args.kind) (consts_of c.args.entries.now.keys) c.args.class.now c.args.name.now c.args.descriptor.now c.put_class.new.entries.keys c.in_ok-class.class c.in_err-member.field-0.0 c.in_ok-class.ensures.put c.in_err-member.ensures.put)

pub returns-clause-put : goal.returns-clause-put
returns-clause-put c =
    let last = subst (λ k. Puts (hold (consts_of c.put_name_and_type.new.entries.keys) k) c.put.new.entries.keys c.put.result) c.entry.ensures.constant c.put.ensures.put in
    member_puts (kind_of c.args.kind) (consts_of c.args.entries.now.keys) c.args.class.now c.args.name.now c.args.descriptor.now c.put_class.new.entries.keys c.put_name_and_type.new.entries.keys c.put.new.entries.keys
    c.in_ok-class.class c.in_ok-member.member c.put.result c.in_ok-class.ensures.put c.in_ok-member.ensures.put last
