use Rattle.std.proofs.Common.{◌≡◌, ◌++◌, false, map, length, reverse, flat_map}
use Rattle.jp_store.specs.Classes.{own_part, first_value}
use Rattle.jvm_load.specs.FileClasses.{classes_of}
use Rattle.jvm_load.proofs.fields.object_values.Given as goal

-- the values so far, and those of the classes that are still to come
abbrev pub invariant-loop-at : goal.invariant-loop-at
invariant-loop-at l =
    l.values.items ++ flat_map (λ at. map first_value (own_part false (classes_of l.files) at)) (reverse l.rest)
    ≡ flat_map (λ at. map first_value (own_part false (classes_of l.files) at)) (reverse l.line)

abbrev pub decreases-loop-at : goal.decreases-loop-at
decreases-loop-at l = length l.rest
