use Rattle.std.proofs.Common.{List, None, refl}
use Rattle.class_form.specs.declared.constant.Const.{Const}
use Rattle.class_form.specs.declared.member.MemberInfo.{MemberInfo}
use Rattle.std.proofs.lemmas.Result.{err_from_is_err_and}
use Rattle.gen_class.proofs.Fitting.{fits_in}
use Rattle.gen_class.proofs.Growing.{same}
use Rattle.gen_class.proofs.Parts.{name_fails}
use Rattle.gen_class.proofs.heads.field_of.Goals as goal

pub returns-in_err-name-clause-refused : goal.returns-in_err-name-clause-refused
returns-in_err-name-clause-refused c =
    let p = err_from_is_err_and c.from_residual.result c.from_residual.ensures.1 in
    rw (p.1, p.2) (name_fails c.args.pool.now c.args.field.now c.in_err-name.field-0.0 c.bytes.result.now c.bytes.ensures c.in_err-name.ensures.held.1)

pub returns-clause-fits : goal.returns-clause-fits
returns-clause-fits c =
    let member : MemberInfo = record { flags = c.member_flags.result; name = c.in_ok-name.name; descriptor = c.in_ok-descriptor.descriptor; code = None; attributes = c.new.result } in
    fits_in member c.utf8-2.new.self c.descriptor_index.new.pool c.descriptor_index.new.pool c.bytes.result.now _ c.new.ensures (λ (constants : List Const). refl) c.in_ok-descriptor.ensures.kept (same c.descriptor_index.new.pool) c.in_ok-name.ensures.named c.in_ok-descriptor.ensures.named
