use Rattle.std.proofs.Common.{◌≡◌, List, ℕ, ◌++◌, length}
use Rattle.std.specs.Io.KnownBytes.{append_known}
use Rattle.jp_outside.proofs.writing.write_all.Given as goal

-- a front part is written, with no fault
abbrev pub invariant-loop-rest : goal.invariant-loop-rest
invariant-loop-rest g l =
    (done : List ℕ) × (done ++ l.rest ≡ l.bytes) × (g.O.Sink.taken l.out ≡ append_known (g.O.Sink.taken l.initial.out) done) × (g.O.Sink.faults l.out ≡ g.O.Sink.faults l.initial.out)

abbrev pub decreases-loop-rest : goal.decreases-loop-rest
decreases-loop-rest g l = length l.rest
