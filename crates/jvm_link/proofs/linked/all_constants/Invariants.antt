use Rattle.jvm_link.specs.Links.{AreLinked}
use Rattle.jvm_link.proofs.linked.all_constants.Given as goal

-- the files so far
abbrev pub invariant-loop-file : goal.invariant-loop-file
invariant-loop-file l = AreLinked l.program l.file-index l.lists.items
