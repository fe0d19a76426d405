use Rattle.std.proofs.Common.{◌∙◌}
use Rattle.jp_ast.specs.declared.decl.Param.{Param}
use Rattle.type_rules.specs.ClassNames.{known_names}
use Rattle.own_names.specs.Naming.{type_names}
use Rattle.own_names.proofs.Firsts.{found}
use Rattle.own_names.proofs.members.outside_in_params.Goals as goal

pub returns-in-Some : goal.returns-in-Some
returns-in-Some c =
    found (known_names c.args.unit.now) (λ (p : Param). type_names c.args.place p.ty) c.args.params.now c.loop-param.param-index c.param-item.result c.in-Some.first c.loop-param-test.true c.param-item.is c.in-Some.ensures
    ∙ c.loop-param.invariant
