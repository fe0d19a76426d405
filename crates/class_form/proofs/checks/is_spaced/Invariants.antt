use Rattle.std.proofs.Common.{◌≡◌, true, drop}
use Rattle.class_form.specs.WellFormed.{is_spaced}
use Rattle.class_form.proofs.checks.is_spaced.Given as goal

-- what is left has to begin as the constants so far say
abbrev pub invariant-loop-constant : goal.invariant-loop-constant
invariant-loop-constant l = is_spaced l.behind (drop l.constant-index l.constants) ≡ is_spaced true l.constants
