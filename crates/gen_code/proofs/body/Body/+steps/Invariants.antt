use Rattle.std.proofs.Common.{length}
use Rattle.gen_code.proofs.body.Body.+steps.Given as goal

-- those that are left
abbrev pub decreases-steps : goal.decreases-steps
decreases-steps l = length l.steps.now
