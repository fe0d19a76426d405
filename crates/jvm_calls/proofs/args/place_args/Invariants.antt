use Rattle.std.proofs.Common.{length}
use Rattle.jvm_calls.proofs.Arguments.{Placing}
use Rattle.jvm_calls.proofs.args.place_args.Given as goal

abbrev pub invariant-loop-value : goal.invariant-loop-value
invariant-loop-value l = Placing l.count l.initial.args l.place l.locals l.args

abbrev pub decreases-loop-value : goal.decreases-loop-value
decreases-loop-value l = length l.args
