use Rattle.std.proofs.Common.{◌≡◌, List, map, subst}
use Rattle.std.proofs.lemmas.Result.{err_from_is_err_and}
use Rattle.iface_codec.specs.declared.iface.IfaceField.{IfaceField}
use Rattle.jp_meaning.specs.Classes.{field_of_head}
use Rattle.jvm_load.specs.FileClasses.{field_of_member}
use Rattle.code_asm.specs.Held.{InFiles}
use Rattle.gen_class.specs.Flags.{field_flags}
use Rattle.gen_class.specs.Asked.{class_constants}
use Rattle.gen_class.proofs.Refused.{no_text, no_heading, no_fields, no_members, code_asked, all_asked}
use Rattle.gen_class.proofs.Whole.{file_is, fit_is, flags_are, constants_are}
use Rattle.gen_class.proofs.class.compiled_file.Goals as goal

pub returns-in_err-utf8-clause-refused : goal.returns-in_err-utf8-clause-refused
returns-in_err-utf8-clause-refused c =
    let p = err_from_is_err_and c.from_residual.result c.from_residual.ensures.1 in
    rw (p.1, p.2) (no_text c.args.hier.now c.args.class.now c.new-pool.result c.new-pool.ensures c.in_err-utf8.field-0.0 c.in_err-utf8.ensures.held.1)

pub returns-in_err-heading-clause-refused : goal.returns-in_err-heading-clause-refused
returns-in_err-heading-clause-refused c =
    let p = err_from_is_err_and c.from_residual-in_err-heading.result c.from_residual-in_err-heading.ensures.1 in
    rw (p.1, p.2)
    (no_heading c.args.hier.now c.args.class.now c.new-pool.result c.new-pool.ensures c.in_err-heading.field-0.0 c.utf8-2.new.self c.in_ok-utf8.ensures.held.0 c.in_err-heading.ensures.refused)

pub returns-in_err-fields-clause-refused : goal.returns-in_err-fields-clause-refused
returns-in_err-fields-clause-refused c =
    let p = err_from_is_err_and c.from_residual-in_err-fields.result c.from_residual-in_err-fields.ensures.1 in
    rw (p.1, p.2)
    (no_fields c.args.hier.now c.args.class.now c.new-pool.result c.new-pool.ensures c.in_err-fields.field-0.0 c.utf8-2.new.self c.in_ok-utf8.ensures.held.0 c.put_heading.new.pool c.as_slice.result.now c.in_ok-heading.ensures.asked c.as_slice.ensures
    c.in_err-fields.ensures.refused)

pub returns-in_err-methods-clause-refused : goal.returns-in_err-methods-clause-refused
returns-in_err-methods-clause-refused c =
    let p = err_from_is_err_and c.from_residual-in_err-methods.result c.from_residual-in_err-methods.ensures.1 in
    rw (p.1, p.2)
    (no_members c.args.hier.now c.args.class.now c.new-pool.result c.utf8-2.new.self c.put_heading.new.pool c.fields_of.new.pool c.as_slice.result.now c.new-pool.ensures c.in_ok-utf8.ensures.held.0 c.in_ok-heading.ensures.asked c.as_slice.ensures
    c.in_ok-fields.ensures.asked c.in_err-methods.field-0.0 c.in_err-methods.ensures.refused)

pub returns-clause-asked : goal.returns-clause-asked
returns-clause-asked c =
    let asked =
    all_asked c.args.hier.now c.args.class.now c.new-pool.result c.utf8-2.new.self c.put_heading.new.pool c.fields_of.new.pool c.as_slice.result.now c.new-pool.ensures c.in_ok-utf8.ensures.held.0 c.in_ok-heading.ensures.asked c.as_slice.ensures
    c.in_ok-fields.ensures.asked c.methods_of.new.pool c.in_ok-methods.ensures.asked in
    constants_are c.methods_of.new.pool c.class_flags-flags.result c.in_ok-heading.heading c.in_ok-fields.fields c.in_ok-methods.methods c.in_ok-file.file (class_constants c.args.hier.now c.args.class.now) c.in_ok-file.ensures asked

pub returns-clause-fit : goal.returns-clause-fit
returns-clause-fit c =
    let shows = subst (λ (fields : List IfaceField). InFiles c.fields_of.new.pool (λ file. map (field_of_member file) c.in_ok-fields.fields ≡ map field_of_head fields)) c.as_slice.ensures c.in_ok-fields.ensures.named in
    let begins =
    code_asked c.args.hier.now c.args.class.now c.new-pool.result c.utf8-2.new.self c.put_heading.new.pool c.fields_of.new.pool c.as_slice.result.now c.new-pool.ensures c.in_ok-utf8.ensures.held.0 c.in_ok-heading.ensures.asked c.as_slice.ensures
    c.in_ok-fields.ensures.asked in
    let asked =
    all_asked c.args.hier.now c.args.class.now c.new-pool.result c.utf8-2.new.self c.put_heading.new.pool c.fields_of.new.pool c.as_slice.result.now c.new-pool.ensures c.in_ok-utf8.ensures.held.0 c.in_ok-heading.ensures.asked c.as_slice.ensures
    c.in_ok-fields.ensures.asked c.methods_of.new.pool c.in_ok-methods.ensures.asked in
    fit_is c.args.hier.now c.args.class.now c.in_ok-heading.heading c.in_ok-fields.fields c.in_ok-methods.methods c.methods_of.new.pool c.utf8-2.new.self c.put_heading.new.pool c.fields_of.new.pool c.class_flags-flags.result c.in_ok-file.file
    c.in_ok-file.ensures c.class_flags-flags.ensures begins c.in_ok-heading.ensures.kept c.in_ok-fields.ensures.kept c.in_ok-methods.ensures.kept c.in_ok-heading.ensures.named shows c.in_ok-methods.ensures.made c.in_ok-fields.ensures.fits
    c.in_ok-methods.ensures.fits asked

pub returns-clause-compiled : goal.returns-clause-compiled
returns-clause-compiled c =
    let shows = subst (λ (fields : List IfaceField). InFiles c.fields_of.new.pool (λ file. map (field_of_member file) c.in_ok-fields.fields ≡ map field_of_head fields)) c.as_slice.ensures c.in_ok-fields.ensures.named in
    file_is c.args.hier.now c.args.class.now c.in_ok-heading.heading c.in_ok-fields.fields c.in_ok-methods.methods c.methods_of.new.pool c.put_heading.new.pool c.fields_of.new.pool c.class_flags-flags.result c.in_ok-file.file c.in_ok-file.ensures
    c.class_flags-flags.ensures c.in_ok-fields.ensures.kept c.in_ok-methods.ensures.kept c.in_ok-heading.ensures.named shows c.in_ok-methods.ensures.made c.requires.apart

pub returns-clause-flagged : goal.returns-clause-flagged
returns-clause-flagged c =
    let flagged = subst (λ (fields : List IfaceField). map (λ member. member.flags) c.in_ok-fields.fields ≡ map field_flags fields) c.as_slice.ensures c.in_ok-fields.ensures.flagged in
    flags_are c.args.class.now c.in_ok-heading.heading c.in_ok-fields.fields c.in_ok-methods.methods c.methods_of.new.pool c.class_flags-flags.result c.in_ok-file.file c.in_ok-file.ensures c.class_flags-flags.ensures flagged c.in_ok-methods.ensures.flagged
