use Rattle.std.proofs.Common.{◌≡◌, Some, drop}
use Rattle.jvm_table.specs.Act.{args_taken}
use Rattle.jvm_calls.proofs.args.take_args.Given as goal

-- the arguments from the i-th kind on are taken
abbrev pub invariant-loop-i : goal.invariant-loop-i
invariant-loop-i l = args_taken (drop l.i l.kinds) l.initial.frame ≡ Some (l.args, l.frame)
