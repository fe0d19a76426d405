use Rattle.std.proofs.Common.{◌≡◌, ◌++◌, drop}
use Rattle.std.specs.List.{flat_map}
use Rattle.type_heads.specs.Supertypes.{classes_at}
use Rattle.decl_rules.specs.Inherited.{methods_named}
use Rattle.decl_rules.specs.Standing.{methods_at}
use Rattle.decl_rules.proofs.upwards.methods_of.Given as goal

-- with those that are still to come
abbrev pub invariant-loop-class : goal.invariant-loop-class
invariant-loop-class l =
    methods_at l.all.items ++ flat_map (λ h. methods_named l.heads h.name) (classes_at (drop l.class-index l.classes)) ≡ flat_map (λ h. methods_named l.heads h.name) (classes_at l.classes)
