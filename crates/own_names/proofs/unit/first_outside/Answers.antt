use Rattle.std.proofs.Common.{ap, ◌∙◌}
use Rattle.std.specs.List.{flat_map}
use Rattle.type_rules.specs.ClassNames.{known_names}
use Rattle.own_names.specs.Naming.{first_unknown}
use Rattle.own_names.specs.Units.{decl_names}
use Rattle.own_names.proofs.UnitNames.{names_own}
use Rattle.own_names.proofs.unit.first_outside.Goals as goal

pub returns-clause-own : goal.returns-clause-own
returns-clause-own c =
    let unit = c.args.unit.now in
    names_own unit c.outside_in_decls.result (c.outside_in_decls.ensures ∙ ap (λ ds. first_unknown (known_names unit) (flat_map decl_names ds)) c.as_slice.ensures)
