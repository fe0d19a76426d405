use Rattle.std.proofs.Common.{◌≡◌, ◌++◌, map, filter_map, take}
use Rattle.jp_store.specs.Classes.{place_of}
use Rattle.jvm_load.specs.FileClasses.{class_text_at, classes_of}
use Rattle.jvm_load.proofs.above.push_interfaces.Given as goal

-- the interfaces so far
abbrev pub invariant-loop-name : goal.invariant-loop-name
invariant-loop-name l =
    l.places.items ≡ l.initial.places.items ++ filter_map (place_of (classes_of l.files)) (map (class_text_at l.file) (take l.name-index l.names))
