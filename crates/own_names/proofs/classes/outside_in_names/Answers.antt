use Rattle.std.proofs.Common.{◌∙◌}
use Rattle.type_rules.specs.ClassNames.{known_names}
use Rattle.own_names.specs.Naming.{alone}
use Rattle.own_names.proofs.Firsts.{found}
use Rattle.own_names.proofs.classes.outside_in_names.Goals as goal

pub returns-in-Some : goal.returns-in-Some
returns-in-Some c =
    found (known_names c.args.unit.now) (alone c.args.place) c.args.names.now c.loop-class.class-index c.class-item.result c.in-Some.first c.loop-class-test.true c.class-item.is c.in-Some.ensures ∙ c.loop-class.invariant
