use Rattle.std.proofs.Common.{◌≡◌, ◌++◌, take}
use Rattle.std.specs.Prelude.{flat_map}
use Rattle.jp_print.specs.Layout.{laid_out}
use Rattle.jp_print.specs.Expressions.{dot_name}
use Rattle.jp_print.proofs.guards.put_path.Given as goal

-- the steps so far
abbrev pub invariant-loop-step : goal.invariant-loop-step
invariant-loop-step l = l.out.items ≡ l.initial.out.items ++ laid_out (flat_map dot_name (take l.step-index l.path.steps))
