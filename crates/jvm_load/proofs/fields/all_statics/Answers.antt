use Rattle.std.proofs.Common.{◌∙◌}
use Rattle.jvm_load.proofs.FieldFacts.{one_file_more}
use Rattle.jvm_load.proofs.fields.all_statics.Goals as goal

pub loop-file-preserved : goal.loop-file-preserved
loop-file-preserved c =
    c.in_ok-push.ensures.items
    ∙ one_file_more c.args.files.now c.loop-file.file-index c.file-item.result c.loop-file.statics.items c.in_ok-values.values c.loop-file-test.true c.file-item.is c.loop-file.invariant c.in_ok-values.ensures
