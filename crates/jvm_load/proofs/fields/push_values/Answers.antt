use Rattle.std.proofs.Common.{◌∙◌}
use Rattle.jvm_load.specs.Fields.{member_role, first_of}
use Rattle.jvm_load.proofs.FieldFacts.{one_more}
use Rattle.jvm_load.proofs.fields.push_values.Goals as goal

pub loop-member-preserved : goal.loop-member-preserved
loop-member-preserved c =
    c.in_ok-push_value.ensures
    ∙ one_more (first_of c.args.file.now) (member_role c.args.wants_static) c.args.members.now c.loop-member.member-index c.member-item.result c.args.values.now.items c.loop-member.values.items
    c.loop-member-test.true c.member-item.is c.loop-member.invariant
