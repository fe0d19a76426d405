use Rattle.std.proofs.Common.{◌≡◌, ◌+◌, drop}
use Rattle.class_writer.specs.Written.{code_name}
use Rattle.class_writer.proofs.pool.code_name.Given as goal

-- the text stands among what is left
abbrev pub invariant-loop-constant : goal.invariant-loop-constant
invariant-loop-constant l = record {
  counted : l.index ≡ l.constant-index;
  left : code_name l.constants ≡ l.index + code_name (drop l.constant-index l.constants);
}
