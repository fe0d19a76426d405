use Rattle.std.proofs.Common.{◌++◌, refl, sym, ap, ◌∙◌}
use Rattle.std.specs.List.{flat_map}
use Rattle.jp_ast.specs.declared.expr.ExprKind.TheVariants as form
use Rattle.type_rules.specs.ClassNames.{known_names}
use Rattle.own_names.specs.Naming.{alone, type_names, in_option, first_unknown}
use Rattle.own_names.specs.Trees.{expr_names}
use Rattle.own_names.proofs.Firsts.{found}
use Rattle.own_names.proofs.Shapes.{two_parts, binary_names, cond_names, cast_names, test_names, index_names, call_names, super_names, new_names, array_names}
use Rattle.own_names.proofs.trees.+exprs.Goals as goal

pub outside_in_expr-returns-in-Binary : goal.outside_in_expr-returns-in-Binary
outside_in_expr-returns-in-Binary t c =
    let left = c.get-in-Binary.result.now in
    let right = c.get-in-Binary-2.result.now in
    two_parts (known_names c.args.unit.now) (expr_names left) (expr_names right) (expr_names c.args.expr.now) c.outside_in_expr-in-Binary.result c.outside_in_expr-in-Binary-2.result c.or.result
    c.outside_in_expr-in-Binary.ensures c.outside_in_expr-in-Binary-2.ensures c.or.ensures
    (binary_names c.args.expr.now c.in-Binary.sign left right (c.in-Binary.is ∙ (λ i. form.Binary c.in-Binary.sign (sym c.get-in-Binary.ensures i) (sym c.get-in-Binary-2.ensures i))))

pub outside_in_expr-returns-in-Cond : goal.outside_in_expr-returns-in-Cond
outside_in_expr-returns-in-Cond t c =
    let known = known_names c.args.unit.now in
    let test = c.get-in-Cond.result.now in
    let first = c.get-in-Cond-2.result.now in
    let second = c.get-in-Cond-3.result.now in
    two_parts known (expr_names test ++ expr_names first) (expr_names second) (expr_names c.args.expr.now) c.or-in-Cond.result c.outside_in_expr-in-Cond-3.result c.or-in-Cond-2.result
    (two_parts known (expr_names test) (expr_names first) (expr_names test ++ expr_names first) c.outside_in_expr-in-Cond.result c.outside_in_expr-in-Cond-2.result c.or-in-Cond.result
    c.outside_in_expr-in-Cond.ensures c.outside_in_expr-in-Cond-2.ensures c.or-in-Cond.ensures refl)
    c.outside_in_expr-in-Cond-3.ensures c.or-in-Cond-2.ensures
    (cond_names c.args.expr.now test first second (c.in-Cond.is ∙ (λ i. form.Cond (sym c.get-in-Cond.ensures i) (sym c.get-in-Cond-2.ensures i) (sym c.get-in-Cond-3.ensures i))))

pub outside_in_expr-returns-in-Cast : goal.outside_in_expr-returns-in-Cast
outside_in_expr-returns-in-Cast t c =
    let value = c.get-in-Cast.result.now in
    two_parts (known_names c.args.unit.now) (alone c.args.expr.now.place c.in-Cast.class) (expr_names value) (expr_names c.args.expr.now) c.outside.result c.outside_in_expr-in-Cast.result c.or-in-Cast.result
    c.outside.ensures c.outside_in_expr-in-Cast.ensures c.or-in-Cast.ensures
    (cast_names c.args.expr.now c.in-Cast.class value (c.in-Cast.is ∙ ap (form.Cast c.in-Cast.class) (sym c.get-in-Cast.ensures)))

pub outside_in_expr-returns-in-InstanceOf : goal.outside_in_expr-returns-in-InstanceOf
outside_in_expr-returns-in-InstanceOf t c =
    let value = c.get-in-InstanceOf.result.now in
    two_parts (known_names c.args.unit.now) (expr_names value) (alone c.args.expr.now.place c.in-InstanceOf.class) (expr_names c.args.expr.now) c.outside_in_expr-in-InstanceOf.result c.outside-in-InstanceOf.result c.or-in-InstanceOf.result
    c.outside_in_expr-in-InstanceOf.ensures c.outside-in-InstanceOf.ensures c.or-in-InstanceOf.ensures
    (test_names c.args.expr.now value c.in-InstanceOf.class (c.in-InstanceOf.is ∙ (λ i. form.InstanceOf (sym c.get-in-InstanceOf.ensures i) c.in-InstanceOf.class)))

pub outside_in_expr-returns-in-Index : goal.outside_in_expr-returns-in-Index
outside_in_expr-returns-in-Index t c =
    let array = c.get-in-Index.result.now in
    let index = c.get-in-Index-2.result.now in
    two_parts (known_names c.args.unit.now) (expr_names array) (expr_names index) (expr_names c.args.expr.now) c.outside_in_expr-in-Index.result c.outside_in_expr-in-Index-2.result c.or-in-Index.result
    c.outside_in_expr-in-Index.ensures c.outside_in_expr-in-Index-2.ensures c.or-in-Index.ensures
    (index_names c.args.expr.now array index (c.in-Index.is ∙ (λ i. form.Index (sym c.get-in-Index.ensures i) (sym c.get-in-Index-2.ensures i))))

pub outside_in_expr-returns-in-Call : goal.outside_in_expr-returns-in-Call
outside_in_expr-returns-in-Call t c =
    let object = c.in-Call.object in
    let args = c.as_slice.result.now in
    two_parts (known_names c.args.unit.now) (in_option expr_names object) (flat_map expr_names args) (expr_names c.args.expr.now) c.outside_in_object.result c.outside_in_exprs.result c.or-in-Call.result
    c.outside_in_object.ensures c.outside_in_exprs.ensures c.or-in-Call.ensures
    (call_names c.args.expr.now object c.in-Call.name args (c.in-Call.is ∙ ap (form.Call object c.in-Call.name) (sym c.as_slice.ensures)))

pub outside_in_expr-returns-in-SuperCall : goal.outside_in_expr-returns-in-SuperCall
outside_in_expr-returns-in-SuperCall t c =
    c.outside_in_exprs-in-SuperCall.ensures
    ∙ ap (first_unknown (known_names c.args.unit.now)) (sym (super_names c.args.expr.now c.in-SuperCall.name c.as_slice-in-SuperCall.result.now (c.in-SuperCall.is ∙ ap (form.SuperCall c.in-SuperCall.name) (sym c.as_slice-in-SuperCall.ensures))))

pub outside_in_expr-returns-in-New : goal.outside_in_expr-returns-in-New
outside_in_expr-returns-in-New t c =
    let args = c.as_slice-in-New.result.now in
    two_parts (known_names c.args.unit.now) (alone c.args.expr.now.place c.in-New.class) (flat_map expr_names args) (expr_names c.args.expr.now) c.outside-in-New.result c.outside_in_exprs-in-New.result c.or-in-New.result
    c.outside-in-New.ensures c.outside_in_exprs-in-New.ensures c.or-in-New.ensures
    (new_names c.args.expr.now c.in-New.class args (c.in-New.is ∙ ap (form.New c.in-New.class) (sym c.as_slice-in-New.ensures)))

pub outside_in_expr-returns-in-NewArray : goal.outside_in_expr-returns-in-NewArray
outside_in_expr-returns-in-NewArray t c =
    let size = c.get-in-NewArray.result.now in
    two_parts (known_names c.args.unit.now) (type_names c.args.expr.now.place c.in-NewArray.elem) (expr_names size) (expr_names c.args.expr.now) c.outside_in_type.result c.outside_in_expr-in-NewArray.result c.or-in-NewArray.result
    c.outside_in_type.ensures c.outside_in_expr-in-NewArray.ensures c.or-in-NewArray.ensures
    (array_names c.args.expr.now c.in-NewArray.elem size (c.in-NewArray.is ∙ ap (form.NewArray c.in-NewArray.elem) (sym c.get-in-NewArray.ensures)))

pub outside_in_exprs-returns-in-Some : goal.outside_in_exprs-returns-in-Some
outside_in_exprs-returns-in-Some t c =
    found (known_names c.args.unit.now) expr_names c.args.all.now c.loop-one.one-index c.one-item.result c.in-Some.first c.loop-one-test.true c.one-item.is c.in-Some.ensures ∙ c.loop-one.invariant
