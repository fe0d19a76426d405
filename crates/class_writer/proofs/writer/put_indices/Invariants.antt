use Rattle.std.proofs.Common.{◌≡◌, ◌++◌, take}
use Rattle.std.specs.Prelude.{flat_map}
use Rattle.class_form.specs.Layout.{u2}
use Rattle.class_writer.proofs.writer.put_indices.Given as goal

-- the indices so far
abbrev pub invariant-loop-index : goal.invariant-loop-index
invariant-loop-index l = l.out.items ≡ l.fn.out.items ++ flat_map u2 (take l.index-index l.indices)
