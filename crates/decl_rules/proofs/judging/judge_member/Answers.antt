use Rattle.std.proofs.Common.{[], ◌++◌, refl}
use Rattle.std.specs.Option.{option_copied}
use Rattle.type_rules.specs.Nodes.{Node, AtMember}
use Rattle.type_rules.specs.RulesOfDeclarations.{rule_2, rule_6, rule_7, rule_8, rule_9, rule_10, rule_11, rule_35}
use Rattle.type_rules.specs.RulesOfStatements.{rule_38}
use Rattle.type_rules.specs.Table.{fault_if}
use Rattle.decl_rules.proofs.Breaks.{then_rule}
use Rattle.decl_rules.proofs.judging.judge_member.Goals as goal

pub returns : goal.returns
returns c =
    let node : Node = AtMember (record {
      heads = c.args.heads.now;
      decl = c.args.decl.now;
      earlier = c.args.before.now;
      member = c.args.member.now;
      super_args = option_copied c.args.super_args;
      completes = c.args.completes;
    }) in
    let p = c.args.member.now.place in
    let new = c.add_if-9.new.self.fault in
    let f38 = fault_if p 38 (rule_38 node) ++ [] in
    let f35 = fault_if p 35 (rule_35 node) ++ f38 in
    let f11 = fault_if p 11 (rule_11 node) ++ f35 in
    let f10 = fault_if p 10 (rule_10 node) ++ f11 in
    let f9 = fault_if p 9 (rule_9 node) ++ f10 in
    let f8 = fault_if p 8 (rule_8 node) ++ f9 in
    let f7 = fault_if p 7 (rule_7 node) ++ f8 in
    let f6 = fault_if p 6 (rule_6 node) ++ f7 in
    then_rule p 2 c.args.first.now.fault c.add_if.new.self.fault new c.has_refused_type.result (rule_2 node) f6 c.add_if.ensures.first c.has_refused_type.ensures
    (then_rule p 6 c.add_if.new.self.fault c.add_if-2.new.self.fault new c.repeats_field.result (rule_6 node) f7 c.add_if-2.ensures.first c.repeats_field.ensures
    (then_rule p 7 c.add_if-2.new.self.fault c.add_if-3.new.self.fault new c.has_other_types.result (rule_7 node) f8 c.add_if-3.ensures.first c.has_other_types.ensures
    (then_rule p 8 c.add_if-3.new.self.fault c.add_if-4.new.self.fault new c.meets_static.result (rule_8 node) f9 c.add_if-4.ensures.first c.meets_static.ensures
    (then_rule p 9 c.add_if-4.new.self.fault c.add_if-5.new.self.fault new c.is_odd_constructor.result (rule_9 node) f10 c.add_if-5.ensures.first c.is_odd_constructor.ensures
    (then_rule p 10 c.add_if-5.new.self.fault c.add_if-6.new.self.fault new c.is_wrongly_private.result (rule_10 node) f11 c.add_if-6.ensures.first c.is_wrongly_private.ensures
    (then_rule p 11 c.add_if-6.new.self.fault c.add_if-7.new.self.fault new c.is_wrongly_abstract.result (rule_11 node) f35 c.add_if-7.ensures.first c.is_wrongly_abstract.ensures
    (then_rule p 35 c.add_if-7.new.self.fault c.add_if-8.new.self.fault new c.cant_call_super.result (rule_35 node) f38 c.add_if-8.ensures.first c.cant_call_super.ensures
    (then_rule p 38 c.add_if-8.new.self.fault c.add_if-9.new.self.fault new c.lacks_result.result (rule_38 node) [] c.add_if-9.ensures.first c.lacks_result.ensures
    refl))))))))
