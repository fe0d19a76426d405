use Rattle.std.proofs.Common.{◌≡◌, drop}
use Rattle.plain_form.specs.Places.{earlier}
use Rattle.plain_form.specs.Families.{repeats_of}
use Rattle.plain_form.proofs.families.with_repeats_of.Given as goal

abbrev pub invariant-loop-other : goal.invariant-loop-other
invariant-loop-other l = earlier l.best (repeats_of l.member (drop l.other-index l.behind)) ≡ earlier l.initial.best (repeats_of l.member l.behind)
