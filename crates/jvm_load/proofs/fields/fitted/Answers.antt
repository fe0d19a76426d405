use Rattle.std.proofs.Common.{◌∙◌}
use Rattle.jvm_load.proofs.FieldFacts.{there_is, fitted_is}
use Rattle.jvm_load.proofs.fields.fitted.Goals as goal

pub returns-clause-field : goal.returns-clause-field
returns-clause-field c = λ class name.
    let file = c.in_ok-file.file.now in
    c.fitted_in.ensures
    ∙ fitted_is c.args.files.now c.args.wants_static (record { class = class; name = name; descriptor = c.args.descriptor.now }) c.args.at c.args.i file
    (there_is c.args.files.now c.args.at file c.in_ok-file.ensures.lookup.3.0 c.in_ok-file.ensures.lookup.1)
