use Rattle.std.proofs.lemmas.Result.{err_from_is_err_and}
use Rattle.gen_class.specs.Flags.{flags_of_part}
use Rattle.gen_class.proofs.Fitting.{all_longer}
use Rattle.gen_class.proofs.Growing.{grown}
use Rattle.gen_class.proofs.Making.{there_is, member_more, kept_more}
use Rattle.gen_class.proofs.Refused.{one_refused, one_asked}
use Rattle.gen_class.proofs.methods.methods_of.Goals as goal

pub returns-in_err-put_method-clause-refused : goal.returns-in_err-put_method-clause-refused
returns-in_err-put_method-clause-refused c =
    let p = err_from_is_err_and c.from_residual.result c.from_residual.ensures.1 in
    let there = there_is c.args.class.now.members c.as_slice-member-items.result.now c.as_slice-member-items.ensures c.loop-member.member-index c.member-item.result c.loop-member-test.true c.member-item.is in
    rw (p.1, p.2)
    (one_refused c.args.hier.now c.args.class.now c.args.pool.now c.loop-member.member-index c.member-item.result c.as_slice-member-items.result.now c.as_slice-member-items.ensures c.loop-member-test.true c.member-item.is there c.loop-member.pool
    c.loop-member.invariant.asked c.in_err-put_method.field-0.0 c.in_err-put_method.ensures.refused)

pub loop-member-preserved : goal.loop-member-preserved
loop-member-preserved c =
    let there = there_is c.args.class.now.members c.as_slice-member-items.result.now c.as_slice-member-items.ensures c.loop-member.member-index c.member-item.result c.loop-member-test.true c.member-item.is in
    record {
      kept = grown c.args.pool.now c.loop-member.pool c.put_method.new.pool c.loop-member.invariant.kept c.in_ok-put_method.ensures.kept;
      made = member_more c.args.class.now.members c.as_slice-member-items.result.now c.as_slice-member-items.ensures c.loop-member.member-index c.member-item.result c.loop-member-test.true c.member-item.is
          c.args.hier.now c.args.class.now.head c.loop-member.pool c.put_method.new.pool c.loop-member.methods c.put_method.new.methods c.in_ok-put_method.ensures.kept c.loop-member.invariant.made c.in_ok-put_method.ensures.made;
      flagged = kept_more c.args.class.now.members c.as_slice-member-items.result.now c.as_slice-member-items.ensures c.loop-member.member-index c.member-item.result c.loop-member-test.true c.member-item.is
          (λ m. flags_of_part c.args.class.now.head m.part) _ _ c.loop-member.invariant.flagged c.in_ok-put_method.ensures.flagged;
      fits = λ file more e. c.in_ok-put_method.ensures.fits file more e (all_longer c.loop-member.pool c.put_method.new.pool c.loop-member.methods c.in_ok-put_method.ensures.kept c.loop-member.invariant.fits file more e);
      asked = one_asked c.args.hier.now c.args.class.now c.args.pool.now c.loop-member.member-index c.member-item.result c.as_slice-member-items.result.now c.as_slice-member-items.ensures c.loop-member-test.true c.member-item.is there c.loop-member.pool
          c.loop-member.invariant.asked c.put_method.new.pool c.in_ok-put_method.ensures.asked;
    }
