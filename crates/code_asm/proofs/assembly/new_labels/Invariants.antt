use Rattle.std.proofs.Common.{◌≡◌, length}
use Rattle.code_asm.specs.Assembled.{AreNumbered}
use Rattle.code_asm.proofs.assembly.new_labels.Given as goal

abbrev pub invariant-loop-i : goal.invariant-loop-i
invariant-loop-i l = record {
  pieces : l.asm.pieces ≡ l.initial.asm.pieces;
  count : l.asm.labels ≡ l._i;
  len : length l.labels.items ≡ l._i;
  numbered : AreNumbered l.labels.items;
}
