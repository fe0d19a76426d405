use Rattle.std.proofs.Common.{subst, arith}
use Rattle.jvm_calls.proofs.Arguments.{Placing, placing_set}
use Rattle.jvm_calls.proofs.args.place_args.Goals as goal

pub loop-value-preserved : goal.loop-value-preserved
loop-value-preserved c =
    let l = c.loop-value in
    let reached = subst (λ vs. Placing c.args.count c.args.args l.place l.locals vs) c.in-Some.ensures l.invariant in
    placing_set c.args.count c.args.args l.place l.locals c.set.new.self c.in-Some.value c.pop_front.new.self c.width-wide.result c.set.result reached c.width-wide.ensures.width c.width-wide.ensures.least (omega arith) c.set.ensures.set c.set.ensures.yes
