use Rattle.std.proofs.Common.{drop}
use Rattle.code_asm.specs.Kept.{pieces_in}
use Rattle.code_asm.proofs.Laying.{Progress}
use Rattle.code_asm.proofs.asm.put_distances.Given as goal

abbrev pub invariant-loop-part : goal.invariant-loop-part
invariant-loop-part l = Progress (pieces_in l.parts l.initial.bytes) l.initial.bytes l.bytes l.at (drop l.part-index l.parts)
