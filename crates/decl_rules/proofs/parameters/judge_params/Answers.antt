use Rattle.std.proofs.Common.{◌∙◌}
use Rattle.decl_rules.proofs.Breaks.{next_param}
use Rattle.decl_rules.proofs.parameters.judge_params.Goals as goal

pub loop-i-preserved : goal.loop-i-preserved
loop-i-preserved c =
    next_param c.loop-i.first.fault c.judge_param.new.first.fault c.args.params.now c.loop-i.i c.index-params-i.result c.loop-i-test.true c.index-params-i.is c.judge_param.ensures ∙ c.loop-i.invariant
