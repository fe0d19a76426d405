use Rattle.std.proofs.Common.{◌≡◌, drop}
use Rattle.std.specs.List.{flat_map}
use Rattle.type_rules.specs.ClassNames.{known_names}
use Rattle.own_names.specs.Naming.{first_unknown}
use Rattle.own_names.specs.Units.{decl_names}
use Rattle.own_names.proofs.unit.outside_in_decls.Given as goal

abbrev pub invariant-loop-decl : goal.invariant-loop-decl
invariant-loop-decl l = first_unknown (known_names l.unit) (flat_map decl_names (drop l.decl-index l.decls)) ≡ first_unknown (known_names l.unit) (flat_map decl_names l.decls)
