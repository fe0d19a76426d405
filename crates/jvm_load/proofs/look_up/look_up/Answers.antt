use Rattle.std.proofs.Common.{sym}
use Rattle.jvm_load.specs.Tables.{key_of, key_text}
use Rattle.jvm_load.proofs.Sorted.{at_is, gap_is}
use Rattle.jvm_load.proofs.look_up.look_up.Goals as goal

pub returns-in-Ok : goal.returns-in-Ok
returns-in-Ok c = λ finds t.
    sym (at_is (key_of c.args.listing c.args.files.now) finds c.args.table.now t (key_text c.args.key) c.in-Ok.at (record { file = 0; member = 0 }) c.in-Ok.ensures.found)

pub returns-in-Err : goal.returns-in-Err
returns-in-Err c = λ finds t.
    sym (gap_is (key_of c.args.listing c.args.files.now) finds c.args.table.now t (key_text c.args.key) c.in-Err.field-0 c.in-Err.ensures.absent)
