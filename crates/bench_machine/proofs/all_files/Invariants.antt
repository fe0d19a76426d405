use Rattle.std.specs.Prelude.{All}
use Rattle.jvm_load.specs.Loadable.{IsLoadableFile}
use Rattle.bench_machine.proofs.all_files.Given as goal

-- the files so far
abbrev pub invariant-loop-i : goal.invariant-loop-i
invariant-loop-i l = All IsLoadableFile l.files.items
