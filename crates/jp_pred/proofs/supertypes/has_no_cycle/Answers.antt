use Rattle.std.proofs.Common.{rules}
use Rattle.jp_pred.proofs.Cycles.{none_above_more, none_above_all, not_true}
use Rattle.jp_pred.proofs.supertypes.has_no_cycle.Goals as goal

pub loop-class-preserved : goal.loop-class-preserved
loop-class-preserved c = none_above_more c.args.hier.now c.args.hier.now.classes c.loop-class.class-index c.class-item.result c.bytes.result.now (search rules) (search rules) c.bytes.ensures
    (λ s. not_true c.is_above_itself.result c.if-is_above_itself.false (c.is_above_itself.ensures.1 s)) c.loop-class.invariant

pub returns-clause-sound : goal.returns-clause-sound
returns-clause-sound c = λ h. none_above_all c.args.hier.now c.loop-class.class-index (search rules) c.loop-class.invariant
