use Rattle.jvm_load.specs.FileClasses.{classes_of}
use Rattle.jvm_load.specs.Above.{AreAbove}
use Rattle.jvm_load.proofs.above.all_above.Given as goal

-- the lists so far
abbrev pub invariant-loop-at : goal.invariant-loop-at
invariant-loop-at l = AreAbove (classes_of l.files) l.at l.lists.items
