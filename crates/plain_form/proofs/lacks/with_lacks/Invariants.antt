use Rattle.std.proofs.Common.{◌≡◌, drop}
use Rattle.std.specs.List.{flat_map}
use Rattle.plain_form.specs.Places.{earlier}
use Rattle.plain_form.specs.Forms.{decl_lacks}
use Rattle.plain_form.proofs.lacks.with_lacks.Given as goal

abbrev pub invariant-loop-decl : goal.invariant-loop-decl
invariant-loop-decl l = earlier l.best (flat_map decl_lacks (drop l.decl-index l.decls)) ≡ earlier l.initial.best (flat_map decl_lacks l.decls)
