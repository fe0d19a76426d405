use Rattle.std.proofs.Common.{◌++◌, refl, sym, ap, ◌∙◌}
use Rattle.std.specs.List.{flat_map}
use Rattle.jp_ast.specs.declared.expr.ExprKind.TheVariants as form
use Rattle.unit_limits.specs.Counting.{first_told}
use Rattle.unit_limits.specs.Texts.{in_option, expr_texts}
use Rattle.unit_limits.proofs.Firsts.{found}
use Rattle.unit_limits.proofs.Shapes.{two_parts, binary_texts, cond_texts, index_texts, call_texts, super_texts, new_texts}
use Rattle.unit_limits.proofs.texts.+exprs.Goals as goal

pub over_in_expr-returns-in-Binary : goal.over_in_expr-returns-in-Binary
over_in_expr-returns-in-Binary t c =
    let left = c.get-in-Binary.result.now in
    let right = c.get-in-Binary-2.result.now in
    two_parts (expr_texts left) (expr_texts right) (expr_texts c.args.expr.now) c.over_in_expr-in-Binary.result c.over_in_expr-in-Binary-2.result c.or.result
    c.over_in_expr-in-Binary.ensures c.over_in_expr-in-Binary-2.ensures c.or.ensures
    (binary_texts c.args.expr.now c.in-Binary.sign left right (c.in-Binary.is ∙ (λ i. form.Binary c.in-Binary.sign (sym c.get-in-Binary.ensures i) (sym c.get-in-Binary-2.ensures i))))

pub over_in_expr-returns-in-Cond : goal.over_in_expr-returns-in-Cond
over_in_expr-returns-in-Cond t c =
    let test = c.get-in-Cond.result.now in
    let first = c.get-in-Cond-2.result.now in
    let second = c.get-in-Cond-3.result.now in
    two_parts (expr_texts test ++ expr_texts first) (expr_texts second) (expr_texts c.args.expr.now) c.or-in-Cond.result c.over_in_expr-in-Cond-3.result c.or-in-Cond-2.result
    (two_parts (expr_texts test) (expr_texts first) (expr_texts test ++ expr_texts first) c.over_in_expr-in-Cond.result c.over_in_expr-in-Cond-2.result c.or-in-Cond.result
    c.over_in_expr-in-Cond.ensures c.over_in_expr-in-Cond-2.ensures c.or-in-Cond.ensures refl)
    c.over_in_expr-in-Cond-3.ensures c.or-in-Cond-2.ensures
    (cond_texts c.args.expr.now test first second (c.in-Cond.is ∙ (λ i. form.Cond (sym c.get-in-Cond.ensures i) (sym c.get-in-Cond-2.ensures i) (sym c.get-in-Cond-3.ensures i))))

pub over_in_expr-returns-in-Index : goal.over_in_expr-returns-in-Index
over_in_expr-returns-in-Index t c =
    let array = c.get-in-Index.result.now in
    let index = c.get-in-Index-2.result.now in
    two_parts (expr_texts array) (expr_texts index) (expr_texts c.args.expr.now) c.over_in_expr-in-Index.result c.over_in_expr-in-Index-2.result c.or-in-Index.result
    c.over_in_expr-in-Index.ensures c.over_in_expr-in-Index-2.ensures c.or-in-Index.ensures
    (index_texts c.args.expr.now array index (c.in-Index.is ∙ (λ i. form.Index (sym c.get-in-Index.ensures i) (sym c.get-in-Index-2.ensures i))))

pub over_in_expr-returns-in-Call : goal.over_in_expr-returns-in-Call
over_in_expr-returns-in-Call t c =
    let object = c.in-Call.object in
    let args = c.as_slice.result.now in
    two_parts (in_option expr_texts object) (flat_map expr_texts args) (expr_texts c.args.expr.now) c.over_in_object.result c.over_in_exprs.result c.or-in-Call.result
    c.over_in_object.ensures c.over_in_exprs.ensures c.or-in-Call.ensures
    (call_texts c.args.expr.now object c.in-Call.name args (c.in-Call.is ∙ ap (form.Call object c.in-Call.name) (sym c.as_slice.ensures)))

pub over_in_expr-returns-in-SuperCall : goal.over_in_expr-returns-in-SuperCall
over_in_expr-returns-in-SuperCall t c =
    c.over_in_exprs-in-SuperCall.ensures
    ∙ ap first_told (sym (super_texts c.args.expr.now c.in-SuperCall.name c.as_slice-in-SuperCall.result.now (c.in-SuperCall.is ∙ ap (form.SuperCall c.in-SuperCall.name) (sym c.as_slice-in-SuperCall.ensures))))

pub over_in_expr-returns-in-New : goal.over_in_expr-returns-in-New
over_in_expr-returns-in-New t c =
    c.over_in_exprs-in-New.ensures
    ∙ ap first_told (sym (new_texts c.args.expr.now c.in-New.class c.as_slice-in-New.result.now (c.in-New.is ∙ ap (form.New c.in-New.class) (sym c.as_slice-in-New.ensures))))

pub over_in_exprs-returns-in-Some : goal.over_in_exprs-returns-in-Some
over_in_exprs-returns-in-Some t c =
    found expr_texts c.args.all.now c.loop-one.one-index c.one-item.result c.in-Some.over c.loop-one-test.true c.one-item.is c.in-Some.ensures ∙ c.loop-one.invariant
