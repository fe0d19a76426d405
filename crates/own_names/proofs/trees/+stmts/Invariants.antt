use Rattle.std.proofs.Common.{◌≡◌, drop}
use Rattle.std.specs.List.{flat_map}
use Rattle.type_rules.specs.ClassNames.{known_names}
use Rattle.own_names.specs.Naming.{first_unknown}
use Rattle.own_names.specs.Trees.{stmt_names}
use Rattle.own_names.proofs.trees.+stmts.Given as goal

abbrev pub invariant-outside_in_stmts-loop-one : goal.invariant-outside_in_stmts-loop-one
invariant-outside_in_stmts-loop-one l = first_unknown (known_names l.unit) (flat_map stmt_names (drop l.one-index l.all)) ≡ first_unknown (known_names l.unit) (flat_map stmt_names l.all)
