use Rattle.std.proofs.Common.{sym, ◌∙◌}
use Rattle.jp_ast.specs.declared.guard.GuardKind.TheVariants as form
use Rattle.type_rules.specs.ClassNames.{known_names}
use Rattle.own_names.specs.Trees.{guard_names}
use Rattle.own_names.proofs.Shapes.{two_parts, and_names, or_names}
use Rattle.own_names.proofs.trees.+guards.Goals as goal

pub returns-in-And : goal.returns-in-And
returns-in-And t c =
    let left = c.get-in-And.result.now in
    let right = c.get-in-And-2.result.now in
    two_parts (known_names c.args.unit.now) (guard_names left) (guard_names right) (guard_names c.args.guard.now) c.outside_in_guard-in-And.result c.outside_in_guard-in-And-2.result c.or.result
    c.outside_in_guard-in-And.ensures c.outside_in_guard-in-And-2.ensures c.or.ensures
    (and_names c.args.guard.now left right (c.in-And.is ∙ (λ i. form.And (sym c.get-in-And.ensures i) (sym c.get-in-And-2.ensures i))))

pub returns-in-Or : goal.returns-in-Or
returns-in-Or t c =
    let left = c.get-in-Or.result.now in
    let right = c.get-in-Or-2.result.now in
    two_parts (known_names c.args.unit.now) (guard_names left) (guard_names right) (guard_names c.args.guard.now) c.outside_in_guard-in-Or.result c.outside_in_guard-in-Or-2.result c.or-in-Or.result
    c.outside_in_guard-in-Or.ensures c.outside_in_guard-in-Or-2.ensures c.or-in-Or.ensures
    (or_names c.args.guard.now left right (c.in-Or.is ∙ (λ i. form.Or (sym c.get-in-Or.ensures i) (sym c.get-in-Or-2.ensures i))))
