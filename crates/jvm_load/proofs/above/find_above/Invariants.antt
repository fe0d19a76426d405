use Rattle.jvm_load.specs.FileClasses.{classes_of}
use Rattle.jvm_load.proofs.Reach.{IsRound}
use Rattle.jvm_load.proofs.above.find_above.Given as goal

-- the rounds so far
abbrev pub invariant-loop-i : goal.invariant-loop-i
invariant-loop-i l = IsRound (classes_of l.files) l._i l.at l.met.items l.frontier.items
