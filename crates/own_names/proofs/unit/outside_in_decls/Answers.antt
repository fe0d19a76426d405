use Rattle.std.proofs.Common.{◌∙◌}
use Rattle.type_rules.specs.ClassNames.{known_names}
use Rattle.own_names.specs.Units.{decl_names}
use Rattle.own_names.proofs.Firsts.{found}
use Rattle.own_names.proofs.unit.outside_in_decls.Goals as goal

pub returns-in-Some : goal.returns-in-Some
returns-in-Some c =
    found (known_names c.args.unit.now) decl_names c.args.decls.now c.loop-decl.decl-index c.decl-item.result c.in-Some.first c.loop-decl-test.true c.decl-item.is c.in-Some.ensures ∙ c.loop-decl.invariant
