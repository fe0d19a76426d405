use Rattle.std.proofs.lemmas.List.Elements.{All-more}
use Rattle.std.proofs.Common.{length, ◌++◌}
use Rattle.std.specs.Prelude.{nat_lt}
use Rattle.std.specs.List.{list_all}
use Rattle.class_form.specs.WellFormed.{member_fits}
use Rattle.class_form.specs.Layout.{u2, MemberInRange}
use Rattle.class_writer.specs.Written.{written_member}
use Rattle.class_form.proofs.Facts.{both}
use Rattle.class_writer.proofs.Lists.{passes_at, piece_more}
use Rattle.class_writer.proofs.members.put_members.Goals as goal

pub put_member-requires : goal.put_member-requires
put_member-requires c =
    let h = both (nat_lt (length c.args.members.now) 65536) (list_all (member_fits c.requires.0) c.args.members.now) c.requires.1 in
    (c.requires.0, rw c.member-item.is (passes_at (member_fits c.requires.0) c.args.members.now c.loop-member.member-index c.member-item.result h.1 c.loop-member-test.true))

pub loop-member-preserved : goal.loop-member-preserved
loop-member-preserved c = record {
  spelled = piece_more (written_member c.args.code_name) (c.args.out.now.items ++ u2 (length c.args.members.now)) c.loop-member.out.items c.put_member.new.out.items c.args.members.now c.loop-member.member-index c.member-item.result c.loop-member.invariant.spelled c.in_ok-put_member.ensures.spelled c.loop-member-test.true c.member-item.is;
  numbers = All-more MemberInRange c.args.members.now c.loop-member.member-index c.member-item.result c.loop-member-test.true c.loop-member.invariant.numbers (rw (← c.member-item.is) c.in_ok-put_member.ensures.numbers);
}
