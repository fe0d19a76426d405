use Rattle.std.proofs.Common.{◌≡◌, ◌++◌, drop}
use Rattle.std.specs.List.{flat_map}
use Rattle.type_rules.specs.Lookups.{unmet}
use Rattle.type_heads.specs.Supertypes.{classes_at, words_at}
use Rattle.type_heads.proofs.hierarchy.add_named.Given as goal

-- with those that are still to come
abbrev pub invariant-loop-class : goal.invariant-loop-class
invariant-loop-class l =
    words_at l.met.items ++ unmet (words_at l.met.items) (flat_map (λ h. h.interfaces) (classes_at (drop l.class-index l.classes)))
    ≡ words_at l.initial.met.items ++ unmet (words_at l.initial.met.items) (flat_map (λ h. h.interfaces) (classes_at l.classes))
