use Rattle.std.proofs.Common.{◌≡◌, ◌-◌, length}
use Rattle.jvm_table.specs.Descriptors.{types_in}
use Rattle.jvm_load.specs.Texts.{joined}
use Rattle.jvm_load.proofs.descriptor.read_types.Given as goal

-- the types so far, and those that are still to come
abbrev pub invariant-loop-i : goal.invariant-loop-i
invariant-loop-i l =
    joined l.kinds.items (types_in (length l.text - l._i) l.rest) ≡ joined l.initial.kinds.items (types_in (length l.text) l.text)
