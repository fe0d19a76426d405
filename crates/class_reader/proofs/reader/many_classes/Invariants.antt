use Rattle.std.proofs.Common.{◌≡◌, ◌-◌}
use Rattle.class_form.specs.WellFormed.{names, is_class}
use Rattle.class_reader.specs.Fields.{many_at, file_edge, index_at}
use Rattle.class_reader.proofs.Loop.{with_front}
use Rattle.class_reader.proofs.reader.many_classes.Given as goal

-- the items so far, and what is left to read
abbrev pub invariant-loop : goal.invariant-loop
invariant-loop l = with_front l.classes (many_at (index_at file_edge (names is_class l.constants)) (l.count - l.counter) l.rest) ≡ many_at (index_at file_edge (names is_class l.constants)) l.count l.bytes
