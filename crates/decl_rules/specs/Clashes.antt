-- How two methods of one name and number of parameters can't stand together, as the rules say.
use Rattle.std.specs.Prelude.{Bool}
use Rattle.iface_codec.specs.declared.iface.IfaceMethod.{IfaceMethod}
use Rattle.type_rules.specs.RulesOfDeclarations.{disagree, collide}
use Rattle.decl_rules.specs.declared.clashes.Clash.{Clash}
use Rattle.decl_rules.specs.declared.clashes.Clash.TheVariants as clash

abbrev pub clash_of : Clash → IfaceMethod → IfaceMethod → Bool
clash_of clash.Types = disagree
clash_of clash.Static = collide
