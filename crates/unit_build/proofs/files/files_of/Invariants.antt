use Rattle.std.proofs.Common.{take}
use Rattle.jp_meaning.specs.Classes.{hier_in}
use Rattle.gen_laws.specs.Compiled.{AreFilesOf}
use Rattle.unit_build.specs.Files.{AreFlagged, AreFormed}
use Rattle.unit_build.proofs.files.files_of.Given as goal

-- the files so far
abbrev pub invariant-loop-class : goal.invariant-loop-class
invariant-loop-class l = record {
  compiled : AreFilesOf (hier_in l.classes) (take l.class-index l.classes) l.files 65536;
  flagged : AreFlagged (take l.class-index l.classes) l.files;
  formed : AreFormed l.files;
}
