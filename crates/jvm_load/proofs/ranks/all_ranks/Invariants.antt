use Rattle.jvm_load.specs.Places.{AreRanked}
use Rattle.jvm_load.proofs.ranks.all_ranks.Given as goal

-- the files so far
abbrev pub invariant-loop-file : goal.invariant-loop-file
invariant-loop-file l = AreRanked l.files l.file-index l.ranks.items
