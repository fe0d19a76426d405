use Rattle.std.proofs.Common.{◌≡◌}
use Rattle.jvm_load.specs.FileClasses.{classes_of}
use Rattle.jvm_load.specs.Lines.{lines_of}
use Rattle.jvm_load.proofs.program.all_lines.Given as goal

-- the lines so far
abbrev pub invariant-loop-at : goal.invariant-loop-at
invariant-loop-at l = l.lines.items ≡ lines_of (classes_of l.files) l.at
