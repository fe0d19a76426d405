use Rattle.std.proofs.Common.{◌≡◌, ℕ, Some, refl, subst, arith}
use Rattle.jvm_quick.specs.Stretches.{moved_by}
use Rattle.jvm_quick.proofs.Moving.{moved_zero, moved_more}
use Rattle.jvm_quick.proofs.stretch.run_stretch.Goals as goal

pub loop-count-init : goal.loop-count-init
loop-count-init c = λ file method h. moved_zero file method c.args.frame.now

pub loop-count-preserved : goal.loop-count-preserved
loop-count-preserved c = λ file method h.
    moved_more file method c.loop-count.count c.args.frame.now c.loop-count.frame c.quick_step.new.frame (c.loop-count.invariant file method h) (c.in-Moved.ensures file method h)

pub returns-in-Trapped-clause-stretch : goal.returns-in-Trapped-clause-stretch
returns-in-Trapped-clause-stretch c = λ file method h. (c.loop-count.frame, c.loop-count.invariant file method h, c.in-Trapped.ensures file method h)

pub returns-in-NoRow-clause-stretch : goal.returns-in-NoRow-clause-stretch
returns-in-NoRow-clause-stretch c = λ file method h. (c.loop-count.frame, c.loop-count.invariant file method h, c.in-NoRow.ensures file method h)

pub returns-in-Other-clause-stretch : goal.returns-in-Other-clause-stretch
returns-in-Other-clause-stretch c = λ file method h. (c.loop-count.frame, c.loop-count.invariant file method h, c.in-Other.ensures file method h)

pub returns-clause-stretch : goal.returns-clause-stretch
returns-clause-stretch c = λ file method h.
    let all : c.loop-count.count ≡ c.args.limit = omega arith in
    (c.loop-count.frame, subst (λ (n : ℕ). moved_by file method n c.args.frame.now ≡ Some c.loop-count.frame) all (c.loop-count.invariant file method h), refl)
