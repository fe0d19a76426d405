use Rattle.std.proofs.Common.{◌≡◌, ◌++◌, take, length}
use Rattle.std.specs.Prelude.{flat_map}
use Rattle.std.specs.List.{All}
use Rattle.class_form.specs.Layout.{constant_bytes, u2, NumberInRange}
use Rattle.class_writer.proofs.pool.put_pool.Given as goal

-- the count and the constants so far
abbrev pub invariant-loop-constant : goal.invariant-loop-constant
invariant-loop-constant l = record {
  spelled : l.out.items ≡ (l.fn.out.items ++ u2 (length l.constants)) ++ flat_map constant_bytes (take l.constant-index l.constants);
  numbers : All NumberInRange (take l.constant-index l.constants);
}
