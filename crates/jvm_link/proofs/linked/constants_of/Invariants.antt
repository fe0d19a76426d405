use Rattle.jvm_link.proofs.Filled.{AreFirst}
use Rattle.jvm_link.proofs.linked.constants_of.Given as goal

-- the constants so far
abbrev pub invariant-loop-index : goal.invariant-loop-index
invariant-loop-index l = AreFirst l.program l.file l.index l.constants.items
