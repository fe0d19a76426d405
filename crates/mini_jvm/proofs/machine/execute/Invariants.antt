use Rattle.std.proofs.Common.{◌≡◌, ◌≤◌, ℕ, ◌-◌}
use Rattle.mini_jvm.proofs.Steps.{Reached}
use Rattle.mini_jvm.proofs.machine.execute.Given as goal

-- the run has done so many instructions, and no device has failed
abbrev pub invariant-turns : goal.invariant-turns
invariant-turns g l = record {
  within : l.done ≤ l.limit;
  reached : Reached l.linked l.done l.initial.state l.state l.ended (g.I.Source.left l.initial.input) (g.I.Source.left l.input) (g.O.Sink.taken l.initial.out) (g.O.Sink.taken l.out);
  reads : g.I.Source.faults l.input ≡ g.I.Source.faults l.initial.input;
  writes : g.O.Sink.faults l.out ≡ g.O.Sink.faults l.initial.out;
}

abbrev pub decreases-turns : goal.decreases-turns
decreases-turns g l = l.limit - l.done
