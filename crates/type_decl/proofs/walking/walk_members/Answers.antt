use Rattle.std.proofs.Common.{List, ap, ◌∙◌, subst}
use Rattle.std.specs.List.{list_all}
use Rattle.jp_ast.specs.declared.decl.Member.{Member}
use Rattle.type_decl.specs.Limits.{member_fits}
use Rattle.type_decl.specs.Walking.{WalksMembers}
use Rattle.type_decl.proofs.Opens.{none_walked, one_more_walked, all_walked, all_at}
use Rattle.type_decl.proofs.walking.walk_members.Goals as goal

pub loop-member-init : goal.loop-member-init
loop-member-init c = none_walked c.args.heads c.args.decl.now c.as_slice-members.result.now c.args.first.now.fault c.new-walked.result.items c.new-walked.ensures.items

pub walk_parts-requires : goal.walk_parts-requires
walk_parts-requires c =
    all_at member_fits c.as_slice-members.result.now c.loop-member.member-index c.member-item.result c.loop-member-test.true c.member-item.is (ap (list_all member_fits) c.as_slice-members.ensures ∙ c.requires)

pub loop-member-preserved : goal.loop-member-preserved
loop-member-preserved c =
    one_more_walked c.args.heads c.loop-member.heads c.args.decl.now c.as_slice-members.result.now c.loop-member.member-index c.member-item.result c.args.first.now.fault c.loop-member.first.fault c.walk_parts.new.first.fault
    c.loop-member.walked.items c.push.new.self.items c.in_ok-one.one c.loop-member-test.true c.member-item.is c.loop-member.invariant c.in_ok-one.ensures c.in_ok-push.ensures.items

pub returns : goal.returns
returns c =
    subst (λ (ms : List Member). WalksMembers c.args.heads c.args.decl.now ms c.args.first.now.fault c.loop-member.first.fault c.loop-member.heads c.loop-member.walked.items) c.as_slice-members.ensures
    (all_walked c.args.heads c.loop-member.heads c.args.decl.now c.as_slice-members.result.now c.loop-member.member-index c.args.first.now.fault c.loop-member.first.fault c.loop-member.walked.items c.loop-member-test.false c.loop-member.invariant)
