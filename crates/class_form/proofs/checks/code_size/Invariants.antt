use Rattle.std.proofs.Common.{◌≡◌, ◌+◌, ◌-◌, ◌^◌, min, take, length}
use Rattle.std.specs.List.{sum_by}
use Rattle.class_form.specs.WellFormed.{attribute_size}
use Rattle.class_form.proofs.checks.code_size.Given as goal

-- the size with the attributes so far
abbrev pub invariant-loop-attribute : goal.invariant-loop-attribute
invariant-loop-attribute l =
    l.size ≡ min (12 + length l.code.bytes + sum_by attribute_size (take l.attribute-index l.code.attributes)) (2 ^ 64 - 1)
