use Rattle.std.proofs.Common.{◌≡◌, drop}
use Rattle.std.specs.List.{flat_map}
use Rattle.plain_form.specs.Places.{earlier}
use Rattle.plain_form.specs.Forms.{guard_places}
use Rattle.plain_form.proofs.lacks.with_guards.Given as goal

abbrev pub invariant-loop-member : goal.invariant-loop-member
invariant-loop-member l =
    earlier l.best (flat_map (λ m. guard_places m.part) (drop l.member-index l.members)) ≡ earlier l.initial.best (flat_map (λ m. guard_places m.part) l.members)
