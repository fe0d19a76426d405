use Rattle.std.proofs.Common.{refl}
use Rattle.jpred_cli.proofs.CodeSteps.{code_more}
use Rattle.jpred_cli.proofs.class_builder.code_of.Goals as goal

pub loop-i-preserved : goal.loop-i-preserved
loop-i-preserved c =
    code_more c.loop-i.code.items c.extend_from_slice.new.self.items _ c.loop-i.i c.args.numbers.now c.loop-i-test.true c.in_ok-extend_from_slice.ensures.items refl c.loop-i.invariant
