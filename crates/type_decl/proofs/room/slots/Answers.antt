use Rattle.type_rules.specs.Names.{receiver_slots}
use Rattle.type_rules.specs.Units.{is_static_part}
use Rattle.type_decl.proofs.Opens.{most_none, most_is, most_few, below_255, slots_are, most_within}
use Rattle.type_decl.proofs.room.slots.Goals as goal

pub unreachable-requires : goal.unreachable-requires
unreachable-requires c =
    most_none c.args.member.now c.args.scope.now c.len-count.result c.block_of.result.now c.requires c.len-count.ensures c.block_of.ensures c.in-None.ensures

pub with_receiver-requires : goal.with_receiver-requires
with_receiver-requires c =
    below_255 (receiver_slots (is_static_part c.args.member.now.part)) c.in-Some.most
    (most_few c.args.member.now c.args.scope.now c.len-count.result c.block_of.result.now c.requires c.len-count.ensures c.block_of.ensures c.in-Some.most c.in-Some.ensures)

pub returns-clause-taken : goal.returns-clause-taken
returns-clause-taken c =
    slots_are c.args.member.now c.args.scope.now c.in-Some.most c.with_receiver.result
    (most_is c.args.member.now c.args.scope.now c.len-count.result c.block_of.result.now c.requires c.len-count.ensures c.block_of.ensures c.in-Some.most c.in-Some.ensures)
    c.with_receiver.ensures

pub returns-clause-most : goal.returns-clause-most
returns-clause-most c =
    most_within c.args.member.now c.args.scope.now c.in-Some.most
    (most_is c.args.member.now c.args.scope.now c.len-count.result c.block_of.result.now c.requires c.len-count.ensures c.block_of.ensures c.in-Some.most c.in-Some.ensures)
    (most_few c.args.member.now c.args.scope.now c.len-count.result c.block_of.result.now c.requires c.len-count.ensures c.block_of.ensures c.in-Some.most c.in-Some.ensures)
