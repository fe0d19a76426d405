use Rattle.std.proofs.Common.{rules}
use Rattle.jp_pred.proofs.Cycles.{by_superclass, by_interface, else_interface, not_true}
use Rattle.jp_pred.proofs.supertypes.names_under.Goals as goal

pub returns-then-is_under : goal.returns-then-is_under
returns-then-is_under c = (λ h. by_superclass c.args.hier.now c.args.class.now c.bytes.result.now c.args.upper.now (search rules) (c.is_under.ensures.0 h), λ s. c.if-is_under.true)

pub returns-else-is_under : goal.returns-else-is_under
returns-else-is_under c = (
  (λ h. by_interface c.args.hier.now c.args.class.now c.as_slice.result.now c.args.upper.now c.as_slice.ensures (c.any_is_under.ensures.0 h)),
  (λ s. c.any_is_under.ensures.1 (else_interface c.args.hier.now c.args.class.now c.as_slice.result.now c.bytes.result.now c.args.upper.now c.as_slice.ensures (search rules)
      (λ r. not_true c.is_under.result c.if-is_under.false (c.is_under.ensures.1 r)) s)),
)
