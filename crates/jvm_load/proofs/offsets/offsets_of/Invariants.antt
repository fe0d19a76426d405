use Rattle.std.proofs.Common.{length}
use Rattle.jvm_load.specs.FileClasses.{classes_of}
use Rattle.jvm_load.proofs.Before.{IsPart}
use Rattle.jvm_load.proofs.offsets.offsets_of.Given as goal

-- the classes so far, and the offset of the next one
abbrev pub invariant-loop-class : goal.invariant-loop-class
invariant-loop-class l = IsPart (classes_of l.files) l.up l.rest l.offsets.items l.before

abbrev pub decreases-loop-class : goal.decreases-loop-class
decreases-loop-class l = length l.rest
