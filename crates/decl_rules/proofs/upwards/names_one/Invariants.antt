use Rattle.std.proofs.Common.{◌≡◌, drop}
use Rattle.type_rules.specs.Types.{is_among}
use Rattle.type_rules.specs.Lookups.{class_names}
use Rattle.type_heads.specs.Supertypes.{classes_at}
use Rattle.decl_rules.proofs.upwards.names_one.Given as goal

abbrev pub invariant-loop-class : goal.invariant-loop-class
invariant-loop-class l = is_among l.name (class_names (classes_at l.classes)) ≡ is_among l.name (class_names (classes_at (drop l.class-index l.classes)))
