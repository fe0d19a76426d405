use Rattle.std.proofs.Common.{[], ◌++◌, refl}
use Rattle.type_rules.specs.Nodes.{Node, AtParam}
use Rattle.type_rules.specs.RulesOfDeclarations.{rule_2}
use Rattle.type_rules.specs.RulesOfNames.{rule_12}
use Rattle.type_rules.specs.Table.{fault_if}
use Rattle.decl_rules.proofs.Breaks.{then_rule}
use Rattle.decl_rules.proofs.parameters.judge_param.Goals as goal

pub returns : goal.returns
returns c =
    let node : Node = AtParam c.args.before.now c.args.param.now in
    let p = c.args.param.now.place in
    let new = c.add_if-2.new.self.fault in
    let f12 = fault_if p 12 (rule_12 node) ++ [] in
    then_rule p 2 c.args.first.now.fault c.add_if.new.self.fault new c.is_refused.result (rule_2 node) f12 c.add_if.ensures.first c.is_refused.ensures
    (then_rule p 12 c.add_if.new.self.fault c.add_if-2.new.self.fault new c.is_taken.result (rule_12 node) [] c.add_if-2.ensures.first c.is_taken.ensures
    refl)
