use Rattle.std.proofs.Common.{Some, refl}
use Rattle.std.proofs.lemmas.Result.{err_from_is_err_and}
use Rattle.class_form.specs.declared.member.MemberInfo.{MemberInfo}
use Rattle.gen_class.specs.Made.{as_name}
use Rattle.gen_class.proofs.Fitting.{fits_in, code_is_fit}
use Rattle.gen_class.proofs.Refused.{unspelled, undescribed, not_compiled, asked_of, is_declared_so}
use Rattle.gen_class.proofs.Single.{is_made}
use Rattle.gen_class.proofs.methods.method_of.Goals as goal

pub returns-in_err-name-clause-refused : goal.returns-in_err-name-clause-refused
returns-in_err-name-clause-refused c =
    let p = err_from_is_err_and c.from_residual.result c.from_residual.ensures.1 in
    rw (p.1, p.2) (unspelled c.args.hier.now c.args.class.now c.args.pool.now c.args.member.now (as_name c.args.head.now) c.requires.named c.in_err-name.field-0.0 c.bytes.result.now c.bytes.ensures c.in_err-name.ensures.held.1)

pub returns-in_err-descriptor-clause-refused : goal.returns-in_err-descriptor-clause-refused
returns-in_err-descriptor-clause-refused c =
    let p = err_from_is_err_and c.from_residual-in_err-descriptor.result c.from_residual-in_err-descriptor.ensures.1 in
    rw (p.1, p.2)
    (undescribed c.args.hier.now c.args.class.now c.args.pool.now c.args.member.now (as_name c.args.head.now) c.requires.named c.in_err-descriptor.field-0.0 c.utf8-2.new.self c.bytes.result.now c.bytes-2.result.now c.bytes.ensures c.bytes-2.ensures
    c.in_ok-name.ensures.held.0 c.in_err-descriptor.ensures.held.1)

pub returns-in_err-code-clause-refused : goal.returns-in_err-code-clause-refused
returns-in_err-code-clause-refused c =
    let p = err_from_is_err_and c.from_residual-in_err-code.result c.from_residual-in_err-code.ensures.1 in
    rw (p.1, p.2)
    (not_compiled c.args.hier.now c.args.class.now c.args.pool.now c.args.member.now (as_name c.args.head.now) c.requires.named c.in_err-code.field-0.0 c.utf8-2.new.self c.utf8-2-2.new.self c.body_code.new.pool c.bytes.result.now c.bytes-2.result.now
    c.bytes.ensures c.bytes-2.ensures c.in_ok-name.ensures.held.0 c.in_ok-descriptor.ensures.held.0 c.in_err-code.ensures.compiled)

pub returns-clause-asked : goal.returns-clause-asked
returns-clause-asked c =
    asked_of c.args.hier.now c.args.class.now c.args.pool.now c.args.member.now (as_name c.args.head.now) c.requires.named c.utf8-2.new.self c.utf8-2-2.new.self c.body_code.new.pool c.bytes.result.now c.bytes-2.result.now c.bytes.ensures c.bytes-2.ensures
    c.in_ok-name.ensures.held.0 c.in_ok-descriptor.ensures.held.0 c.in_ok-code.ensures.asked

pub returns-clause-fits : goal.returns-clause-fits
returns-clause-fits c =
    let method : MemberInfo = record { flags = c.args.head.now.flags; name = c.in_ok-name.name; descriptor = c.in_ok-descriptor.descriptor; code = Some c.in_ok-code.code; attributes = c.new.result } in
    let sized = c.in_ok-code.ensures.sized in
    let code = code_is_fit c.in_ok-code.code method.code refl (sized.some (is_declared_so c.args.class.now c.args.member.now.part (as_name c.args.head.now) c.requires.named)) sized.short sized.bare in
    fits_in method c.utf8-2.new.self c.utf8-2-2.new.self c.body_code.new.pool c.bytes.result.now c.bytes-2.result.now c.new.ensures code c.in_ok-descriptor.ensures.kept c.in_ok-code.ensures.kept c.in_ok-name.ensures.named c.in_ok-descriptor.ensures.named

pub returns-clause-made : goal.returns-clause-made
returns-clause-made c =
    let method : MemberInfo = record { flags = c.args.head.now.flags; name = c.in_ok-name.name; descriptor = c.in_ok-descriptor.descriptor; code = Some c.in_ok-code.code; attributes = c.new.result } in
    is_made c.args.hier.now c.args.class.now c.args.member.now (as_name c.args.head.now) method c.in_ok-code.code c.utf8-2.new.self c.utf8-2-2.new.self c.body_code.new.pool c.bytes.result.now c.bytes-2.result.now c.requires.signed
    c.requires.named c.requires.flagged c.requires.meant refl c.in_ok-descriptor.ensures.kept c.in_ok-code.ensures.kept c.bytes.ensures c.bytes-2.ensures c.in_ok-name.ensures.named c.in_ok-descriptor.ensures.named c.in_ok-code.ensures.compiled
