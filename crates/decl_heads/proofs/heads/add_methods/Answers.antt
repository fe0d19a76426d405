use Rattle.type_rules.specs.Heads.{as_method}
use Rattle.decl_heads.proofs.Filters.{one_more}
use Rattle.decl_heads.proofs.heads.add_methods.Goals as goal

pub loop-member-preserved : goal.loop-member-preserved
loop-member-preserved c =
    one_more as_method c.args.members.now c.loop-member.member-index c.member-item.result c.args.methods.now c.loop-member.methods c.add.new.all c.in_ok-one.one
    c.loop-member-test.true c.member-item.is c.loop-member.invariant c.in_ok-one.ensures c.in_ok-add.ensures
