use Rattle.std.proofs.Common.{◌≡◌, ◌++◌, take}
use Rattle.std.specs.Prelude.{flat_map}
use Rattle.class_form.specs.Layout.{attribute_bytes}
use Rattle.class_writer.proofs.members.put_each.Given as goal

-- the attributes so far
abbrev pub invariant-loop-attribute : goal.invariant-loop-attribute
invariant-loop-attribute l = l.out.items ≡ l.fn.out.items ++ flat_map attribute_bytes (take l.attribute-index l.attributes)
