use Rattle.std.proofs.Common.{◌≡◌, drop}
use Rattle.plain_form.specs.Places.{earlier}
use Rattle.plain_form.specs.Families.{repeats}
use Rattle.plain_form.proofs.families.with_repeats.Given as goal

abbrev pub invariant-loop-i : goal.invariant-loop-i
invariant-loop-i l = earlier l.best (repeats (drop l.i l.members)) ≡ earlier l.initial.best (repeats l.members)
