use Rattle.gen_member.proofs.Compiles.{without_memory, compiles}
use Rattle.gen_member.proofs.Sizes.{measured}
use Rattle.gen_member.proofs.laid.body_code.Goals as goal

pub returns-in_err-need-clause-compiled : goal.returns-in_err-need-clause-compiled
returns-in_err-need-clause-compiled c = without_memory c.args.hier.now c.args.head.now c.args.m.now c.args.pool.now c.args.pool.now c.from_residual.result c.from_residual.ensures.1

pub returns-clause-compiled : goal.returns-clause-compiled
returns-clause-compiled c =
    compiles c.args.hier.now c.args.head.now c.args.m.now c.args.pool.now _ _ c.put_member.new.code _ c.lay_out.result c.new.ensures.items c.in_ok-need.ensures c.requires c.lay_out.ensures.laid c.lay_out.ensures.members

pub returns-clause-sized : goal.returns-clause-sized
returns-clause-sized c = (measured c.args.hier.now c.args.head.now c.args.m.now c.args.pool.now _ _ c.put_member.new.code _ c.lay_out.result c.new.ensures.items c.in_ok-need.ensures c.lay_out.ensures.laid).0

pub returns-clause-asked : goal.returns-clause-asked
returns-clause-asked c = (measured c.args.hier.now c.args.head.now c.args.m.now c.args.pool.now _ _ c.put_member.new.code _ c.lay_out.result c.new.ensures.items c.in_ok-need.ensures c.lay_out.ensures.laid).1
