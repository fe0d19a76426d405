use Rattle.std.proofs.Common.{◌∙◌}
use Rattle.std.specs.Prelude.{◌&&◌}
use Rattle.type_guards.proofs.NodeFaults.{looks_test}
use Rattle.type_guards.proofs.atoms.test_rules.Goals as goal

pub returns : goal.returns
returns c =
    looks_test c.args.place c.args.scope.now c.args.found.now c.args.class.now c.args.alias.now c.is_reserved.result c.has_option.result c.cant_be_tested.result c.is_excluded.result c.is_nested.result
    c.args.first.now.fault c.add_if-is_type.new.self.fault c.add_if-is_new.new.self.fault c.add_if-is_object.new.self.fault c.add_if-is_related.new.self.fault c.add_if-is_outermost.new.self.fault c.are_kept.result
    c.is_reserved.ensures c.has_option.ensures c.cant_be_tested.ensures c.is_excluded.ensures c.is_nested.ensures
    c.add_if-is_type.ensures.first c.add_if-is_new.ensures.first c.add_if-is_object.ensures.first c.add_if-is_related.ensures.first c.add_if-is_outermost.ensures.first
    (c.are_kept.ensures ∙ (λ i. ((((c.add_if-is_type.ensures.kept i && c.add_if-is_new.ensures.kept i) && c.add_if-is_object.ensures.kept i) && c.add_if-is_related.ensures.kept i) && c.add_if-is_outermost.ensures.kept i)))
