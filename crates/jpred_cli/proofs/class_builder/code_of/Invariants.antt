use Rattle.std.proofs.Common.{◌≡◌, ◌+◌, ◌++◌, drop}
use Rattle.jpred_cli.specs.Built.{code_from}
use Rattle.jpred_cli.proofs.class_builder.code_of.Given as goal

-- what stands so far and the code of the numbers that are left are the code of all
abbrev pub invariant-loop-i : goal.invariant-loop-i
invariant-loop-i l = l.code.items ++ code_from (14 + l.i) (drop l.i l.numbers) ≡ code_from 14 l.numbers
