use Rattle.jvm_load.proofs.Counted.{RankedSoFar}
use Rattle.jvm_load.proofs.ranks.ranks_of.Given as goal

-- the ranks so far, and how many fields were of each sort
abbrev pub invariant-loop-field : goal.invariant-loop-field
invariant-loop-field l = RankedSoFar l.fields l.field-index l.ranks.items l.statics l.others
