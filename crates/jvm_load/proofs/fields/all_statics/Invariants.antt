use Rattle.std.proofs.Common.{◌≡◌, take}
use Rattle.jp_store.specs.Classes.{first_statics}
use Rattle.jvm_load.specs.FileClasses.{classes_of}
use Rattle.jvm_load.proofs.fields.all_statics.Given as goal

-- the static fields so far
abbrev pub invariant-loop-file : goal.invariant-loop-file
invariant-loop-file l = l.statics.items ≡ first_statics (classes_of (take l.file-index l.files))
