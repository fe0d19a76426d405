use Rattle.std.proofs.Common.{◌≡◌, take}
use Rattle.type_rules.specs.Lookups.{class_names}
use Rattle.type_heads.specs.Supertypes.{classes_at, words_at}
use Rattle.type_heads.proofs.hierarchy.names_of.Given as goal

abbrev pub invariant-loop-class : goal.invariant-loop-class
invariant-loop-class l = words_at l.names.items ≡ class_names (classes_at (take l.class-index l.classes))
