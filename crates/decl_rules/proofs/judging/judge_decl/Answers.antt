use Rattle.std.proofs.Common.{[], ◌++◌, refl, ap, ◌∙◌}
use Rattle.type_rules.specs.Nodes.{Node, AtDecl}
use Rattle.type_rules.specs.RulesOfDeclarations.{rule_1, rule_2, rule_3, rule_4, rule_5, rule_7, rule_8, rule_35, disagree, collide, some_pair}
use Rattle.type_rules.specs.Table.{fault_if}
use Rattle.decl_rules.proofs.Breaks.{then_rule}
use Rattle.decl_rules.proofs.judging.judge_decl.Goals as goal

pub returns : goal.returns
returns c =
    let node : Node = AtDecl (record { heads = c.args.heads.now; earlier = c.args.before.now; decl = c.args.decl.now }) in
    let p = c.args.decl.now.place in
    let new = c.add_if-8.new.self.fault in
    let f35 = fault_if p 35 (rule_35 node) ++ [] in
    let f8 = fault_if p 8 (rule_8 node) ++ f35 in
    let f7 = fault_if p 7 (rule_7 node) ++ f8 in
    let f5 = fault_if p 5 (rule_5 node) ++ f7 in
    let f4 = fault_if p 4 (rule_4 node) ++ f5 in
    let f3 = fault_if p 3 (rule_3 node) ++ f4 in
    let f2 = fault_if p 2 (rule_2 node) ++ f3 in
    then_rule p 1 c.args.first.now.fault c.add_if.new.self.fault new c.has_taken_name.result (rule_1 node) f2 c.add_if.ensures.first c.has_taken_name.ensures
    (then_rule p 2 c.add_if.new.self.fault c.add_if-2.new.self.fault new c.extends_reserved.result (rule_2 node) f3 c.add_if-2.ensures.first c.extends_reserved.ensures
    (then_rule p 3 c.add_if-2.new.self.fault c.add_if-3.new.self.fault new c.extends_closed.result (rule_3 node) f4 c.add_if-3.ensures.first c.extends_closed.ensures
    (then_rule p 4 c.add_if-3.new.self.fault c.add_if-4.new.self.fault new c.misnames_interfaces.result (rule_4 node) f5 c.add_if-4.ensures.first c.misnames_interfaces.ensures
    (then_rule p 5 c.add_if-4.new.self.fault c.add_if-5.new.self.fault new c.is_above_itself.result (rule_5 node) f7 c.add_if-5.ensures.first c.is_above_itself.ensures
    (then_rule p 7 c.add_if-5.new.self.fault c.add_if-6.new.self.fault new c.inherits_other_types.result (rule_7 node) f8 c.add_if-6.ensures.first (c.inherits_other_types.ensures ∙ ap (some_pair disagree) c.requires.methods_are)
    (then_rule p 8 c.add_if-6.new.self.fault c.add_if-7.new.self.fault new c.inherits_static.result (rule_8 node) f35 c.add_if-7.ensures.first (c.inherits_static.ensures ∙ ap (some_pair collide) c.requires.methods_are)
    (then_rule p 35 c.add_if-7.new.self.fault c.add_if-8.new.self.fault new c.cant_be_made.result (rule_35 node) [] c.add_if-8.ensures.first c.cant_be_made.ensures
    refl)))))))
