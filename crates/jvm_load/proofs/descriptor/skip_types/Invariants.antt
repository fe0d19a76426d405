use Rattle.std.proofs.Common.{◌≡◌, ◌-◌, length}
use Rattle.jvm_table.specs.Descriptors.{types_in}
use Rattle.jvm_load.specs.Texts.{text_behind}
use Rattle.jvm_load.proofs.descriptor.skip_types.Given as goal

-- the types that are still to come lead to the same text
abbrev pub invariant-loop-i : goal.invariant-loop-i
invariant-loop-i l = text_behind (types_in (length l.text - l._i) l.rest) ≡ text_behind (types_in (length l.text) l.text)
