use Rattle.std.proofs.Common.{refl}
use Rattle.type_decl.proofs.Opens.{opened_few, opened_room, opened_most, parts_walked}
use Rattle.type_decl.proofs.walking.walk_parts.Goals as goal

pub see_super-requires : goal.see_super-requires
see_super-requires c = opened_few c.args.heads c.args.decl.now c.args.member.now c.args.first.now.fault c.open_member.new.first.fault c.in_ok-opened.opened c.requires c.in_ok-opened.ensures

pub slots-locals-requires : goal.slots-locals-requires
slots-locals-requires c = opened_room c.args.heads c.args.decl.now c.args.member.now c.args.first.now.fault c.open_member.new.first.fault c.in_ok-opened.opened c.requires c.in_ok-opened.ensures

pub walk_all-requires-clause-variables : goal.walk_all-requires-clause-variables
walk_all-requires-clause-variables c = opened_few c.args.heads c.args.decl.now c.args.member.now c.args.first.now.fault c.open_member.new.first.fault c.in_ok-opened.opened c.requires c.in_ok-opened.ensures

pub walk_all-requires-clause-most : goal.walk_all-requires-clause-most
walk_all-requires-clause-most c = opened_most c.args.member.now c.in_ok-opened.opened.scope c.block_of.result.now c.block_of.ensures c.slots-locals.ensures.most

pub returns : goal.returns
returns c =
    parts_walked c.args.heads c.args.decl.now c.args.member.now c.in_ok-opened.opened c.walk_all.new.scope c.block_of.result.now c.args.first.now.fault c.open_member.new.first.fault c.see_super.new.first.fault c.walk_all.new.first.fault _
    c.in_ok-opened.ensures c.in_ok-super_args.ensures c.slots-locals.ensures.taken c.block_of.ensures c.in_ok-block.ensures.walks c.in_ok-block.ensures.after refl refl refl
