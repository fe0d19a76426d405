use Rattle.std.proofs.Common.{◌≡◌, ◌-◌, ◌++◌, length}
use Rattle.jp_store.specs.Classes.{line}
use Rattle.jvm_load.specs.FileClasses.{classes_of}
use Rattle.jvm_load.proofs.LineLemmas.{above}
use Rattle.jvm_load.proofs.walk.walk_up.Given as goal

-- what the walk has met, and what is still to come
abbrev pub invariant-loop-i : goal.invariant-loop-i
invariant-loop-i l =
    l.up.items ++ above (length l.files - l._i) (classes_of l.files) l.up.items l.next ≡ line (classes_of l.files) l.at
