use Rattle.std.proofs.Common.{◌<◌, length, arith, ◌∙◌}
use Rattle.jvm_load.specs.Tables.{keys_at}
use Rattle.jvm_load.proofs.Growth.{next_entry}
use Rattle.jvm_load.proofs.tables.push_entries.Goals as goal

pub loop-member-preserved : goal.loop-member-preserved
loop-member-preserved c =
    let keys = keys_at c.args.listing c.args.files.now c.args.at in
    let within : c.loop-member.member < length keys = omega (arith, c.loop-member-test.true, c.count_at-member-end.ensures.count) in
    c.in_ok-push.ensures.items ∙ next_entry c.args.at c.loop-member.member keys c.args.entries.now.items c.loop-member.entries.items within c.loop-member.invariant
