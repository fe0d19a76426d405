use Rattle.std.proofs.Common.{◌≡◌, ◌++◌, take}
use Rattle.std.specs.List.{flat_map}
use Rattle.jp_meaning.specs.Descriptors.{descriptor_of}
use Rattle.whole_classes.proofs.descriptor.put_descriptors.Given as goal

abbrev pub invariant-loop-ty : goal.invariant-loop-ty
invariant-loop-ty l = l.bytes.items ≡ l.initial.bytes.items ++ flat_map descriptor_of (take l.ty-index l.types)
