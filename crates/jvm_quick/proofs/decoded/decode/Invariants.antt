use Rattle.jvm_quick.specs.Rows.{IsOfFile}
use Rattle.jvm_quick.proofs.Filled.{AreFirst}
use Rattle.jvm_quick.proofs.decoded.decode.Given as goal

-- the files so far
abbrev pub invariant-loop-file : goal.invariant-loop-file
invariant-loop-file l = AreFirst (IsOfFile l.program) l.file-index l.lists.items
