use Rattle.std.proofs.Common.{take, flat_map}
use Rattle.jp_store.specs.Classes.{supers_of}
use Rattle.jvm_load.specs.FileClasses.{classes_of}
use Rattle.jvm_load.specs.Above.{IsJoined}
use Rattle.jvm_load.proofs.above.go_up.Given as goal

-- the super types so far
abbrev pub invariant-loop-at : goal.invariant-loop-at
invariant-loop-at l = record {
  met : IsJoined l.met.items l.initial.met.items (flat_map (supers_of (classes_of l.files)) (take l.at-index l.frontier));
  fresh : IsJoined l.met.items l.initial.met.items l.fresh.items;
}
