use Rattle.std.proofs.Common.{refl}
use Rattle.jp_pred.proofs.Cycles.{found_under, none_more, not_true}
use Rattle.jp_pred.proofs.supertypes.any_is_under.Goals as goal

pub returns-then-is_under : goal.returns-then-is_under
returns-then-is_under c = (λ h. found_under c.args.hier.now c.args.names.now c.loop-name.name-index c.name-item.result c.bytes.result.now c.args.upper.now c.loop-name-test.true c.name-item.is c.bytes.ensures (c.if-is_under.ensures.0 refl), λ s. refl)

pub loop-name-preserved : goal.loop-name-preserved
loop-name-preserved c = none_more c.args.hier.now c.args.names.now c.loop-name.name-index c.name-item.result c.bytes.result.now c.args.upper.now c.loop-name-test.true c.name-item.is c.bytes.ensures
    c.loop-name.invariant (λ r. not_true c.is_under.result c.if-is_under.false (c.is_under.ensures.1 r))
