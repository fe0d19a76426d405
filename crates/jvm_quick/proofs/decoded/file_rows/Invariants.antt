use Rattle.jvm_quick.specs.Rows.{IsOfMethod}
use Rattle.jvm_quick.proofs.Filled.{AreFirst}
use Rattle.jvm_quick.proofs.decoded.file_rows.Given as goal

-- the methods so far
abbrev pub invariant-loop-method : goal.invariant-loop-method
invariant-loop-method l = AreFirst (IsOfMethod l.file) l.method-index l.lists.items
