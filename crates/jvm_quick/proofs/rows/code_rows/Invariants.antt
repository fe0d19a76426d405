use Rattle.jvm_quick.specs.Rows.{DoesAsAt}
use Rattle.jvm_quick.proofs.Filled.{AreFirst}
use Rattle.jvm_quick.proofs.rows.code_rows.Given as goal

-- the rows so far
abbrev pub invariant-loop-place : goal.invariant-loop-place
invariant-loop-place l = AreFirst (DoesAsAt l.file l.code) l.place l.rows.items
