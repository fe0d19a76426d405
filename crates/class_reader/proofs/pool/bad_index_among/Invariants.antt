use Rattle.std.proofs.Common.{◌≡◌, drop}
use Rattle.class_reader.specs.Reading.{bad_index_among}
use Rattle.class_reader.proofs.pool.bad_index_among.Given as goal

-- the first index of the wrong kind is among those left
abbrev pub invariant-loop-constant : goal.invariant-loop-constant
invariant-loop-constant l =
    bad_index_among l.constants (drop l.constant-index l.constants) l.left ≡ bad_index_among l.constants l.constants l.initial.left
