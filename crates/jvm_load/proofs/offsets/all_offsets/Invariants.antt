use Rattle.jvm_load.specs.FileClasses.{classes_of}
use Rattle.jvm_load.specs.Places.{AreOffsetLists}
use Rattle.jvm_load.proofs.offsets.all_offsets.Given as goal

-- the classes so far
abbrev pub invariant-loop-at : goal.invariant-loop-at
invariant-loop-at l = AreOffsetLists (classes_of l.files) l.at l.offsets.items
