use Rattle.std.proofs.Common.{sym, arith}
use Rattle.jp_store.specs.declared.value.Kind.TheVariants.{Number}
use Rattle.jvm_calls.proofs.Arguments.{fails_popped, fails_kind}
use Rattle.jvm_calls.proofs.args.take_args.Goals as goal

pub returns-in_default : goal.returns-in_default
returns-in_default c =
    sym (fails_popped c.args.kinds.now c.loop-i.i c.args.frame.now c.loop-i.frame c.loop-i.args (omega arith) (omega arith) c.loop-i.invariant c.in_default.ensures)

pub returns-then-not-has_kind : goal.returns-then-not-has_kind
returns-then-not-has_kind c =
    sym (fails_kind c.args.kinds.now c.loop-i.i Number c.args.frame.now c.loop-i.frame c.pop.new.frame c.loop-i.args c.in-Some.value (omega arith) (omega arith) c.loop-i.invariant c.in-Some.ensures (sym c.if-not-has_kind.ensures))
