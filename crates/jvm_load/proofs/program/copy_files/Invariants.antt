use Rattle.std.proofs.Common.{◌≡◌, take}
use Rattle.jvm_load.proofs.program.copy_files.Given as goal

-- the copies so far
abbrev pub invariant-loop-file : goal.invariant-loop-file
invariant-loop-file l = l.copies.items ≡ take l.file-index l.files
