use Rattle.std.proofs.Common.{◌≡◌, drop}
use Rattle.gen_code.specs.Compiled.{marks_once}
use Rattle.gen_code.proofs.check.marks_once.Given as goal

-- what is left to look at decides
abbrev pub invariant-loop-at : goal.invariant-loop-at
invariant-loop-at l = marks_once l.lines ≡ marks_once (drop l.at l.lines)
