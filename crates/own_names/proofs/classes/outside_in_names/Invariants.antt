use Rattle.std.proofs.Common.{◌≡◌, drop}
use Rattle.std.specs.List.{flat_map}
use Rattle.type_rules.specs.ClassNames.{known_names}
use Rattle.own_names.specs.Naming.{alone, first_unknown}
use Rattle.own_names.proofs.classes.outside_in_names.Given as goal

abbrev pub invariant-loop-class : goal.invariant-loop-class
invariant-loop-class l = first_unknown (known_names l.unit) (flat_map (alone l.place) (drop l.class-index l.names)) ≡ first_unknown (known_names l.unit) (flat_map (alone l.place) l.names)
