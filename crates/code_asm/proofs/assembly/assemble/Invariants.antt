use Rattle.std.proofs.Common.{◌≡◌}
use Rattle.code_asm.specs.Held.{Extends}
use Rattle.code_asm.proofs.Growing.{Going}
use Rattle.code_asm.proofs.assembly.assemble.Given as goal

abbrev pub invariant-loop-line : goal.invariant-loop-line
invariant-loop-line l = record {
  going : Going l.lines l.initial.pool l.pool l.asm.pieces l.line-index;
  labels : l.asm.labels ≡ l.labels;
  kept : Extends l.initial.pool l.pool;
}
