use Rattle.type_rules.specs.Heads.{as_constructor}
use Rattle.decl_heads.proofs.Filters.{one_more}
use Rattle.decl_heads.proofs.heads.add_constructors.Goals as goal

pub loop-member-preserved : goal.loop-member-preserved
loop-member-preserved c =
    one_more as_constructor c.args.members.now c.loop-member.member-index c.member-item.result c.args.constructors.now c.loop-member.constructors c.add.new.all c.in_ok-one.one
    c.loop-member-test.true c.member-item.is c.loop-member.invariant c.in_ok-one.ensures c.in_ok-add.ensures
