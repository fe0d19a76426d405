use Rattle.std.proofs.Common.{◌++◌, refl, sym, ap, ◌∙◌}
use Rattle.jp_ast.specs.declared.stmt.StmtKind.TheVariants as run
use Rattle.type_rules.specs.ClassNames.{known_names}
use Rattle.own_names.specs.Naming.{type_names, in_option, first_unknown}
use Rattle.own_names.specs.Trees.{expr_names, stmt_names}
use Rattle.own_names.proofs.Firsts.{found}
use Rattle.own_names.proofs.Shapes.{two_parts, block_names, local_names, if_names, while_names, for_names, assign_names}
use Rattle.own_names.proofs.trees.+stmts.Goals as goal

pub outside_in_stmt-returns-in-Block : goal.outside_in_stmt-returns-in-Block
outside_in_stmt-returns-in-Block t c =
    c.outside_in_stmts.ensures ∙ ap (first_unknown (known_names c.args.unit.now)) (sym (block_names c.args.stmt.now c.as_slice.result.now (c.in-Block.is ∙ ap run.Block (sym c.as_slice.ensures))))

pub outside_in_stmt-returns-in-Local : goal.outside_in_stmt-returns-in-Local
outside_in_stmt-returns-in-Local t c =
    two_parts (known_names c.args.unit.now) (type_names c.args.stmt.now.place c.in-Local.ty) (in_option expr_names c.in-Local.value) (stmt_names c.args.stmt.now) c.outside_in_type.result c.outside_in_value.result c.or.result
    c.outside_in_type.ensures c.outside_in_value.ensures c.or.ensures (local_names c.args.stmt.now c.in-Local.ty c.in-Local.name c.in-Local.value c.in-Local.is)

pub outside_in_stmt-returns-in-If : goal.outside_in_stmt-returns-in-If
outside_in_stmt-returns-in-If t c =
    let known = known_names c.args.unit.now in
    let test = expr_names c.in-If.test in
    let first = stmt_names c.get.result.now in
    let second = in_option stmt_names c.in-If.no in
    two_parts known (test ++ first) second (stmt_names c.args.stmt.now) c.or-in-If.result c.outside_in_branch.result c.or-in-If-2.result
    (two_parts known test first (test ++ first) c.outside_in_expr.result c.outside_in_stmt.result c.or-in-If.result c.outside_in_expr.ensures c.outside_in_stmt.ensures c.or-in-If.ensures refl)
    c.outside_in_branch.ensures c.or-in-If-2.ensures
    (if_names c.args.stmt.now c.in-If.test c.get.result.now c.in-If.no (c.in-If.is ∙ (λ i. run.If c.in-If.test (sym c.get.ensures i) c.in-If.no)))

pub outside_in_stmt-returns-in-While : goal.outside_in_stmt-returns-in-While
outside_in_stmt-returns-in-While t c =
    two_parts (known_names c.args.unit.now) (expr_names c.in-While.test) (stmt_names c.get-in-While.result.now) (stmt_names c.args.stmt.now) c.outside_in_expr-in-While.result c.outside_in_stmt-in-While.result c.or-in-While.result
    c.outside_in_expr-in-While.ensures c.outside_in_stmt-in-While.ensures c.or-in-While.ensures
    (while_names c.args.stmt.now c.in-While.test c.get-in-While.result.now (c.in-While.is ∙ ap (run.While c.in-While.test) (sym c.get-in-While.ensures)))

pub outside_in_stmt-returns-in-For : goal.outside_in_stmt-returns-in-For
outside_in_stmt-returns-in-For t c =
    let known = known_names c.args.unit.now in
    let init = in_option stmt_names c.in-For.init in
    let test = in_option expr_names c.in-For.test in
    let change = in_option stmt_names c.in-For.change in
    let body = stmt_names c.get-in-For.result.now in
    two_parts known (init ++ test ++ change) body (stmt_names c.args.stmt.now) c.or-in-For-2.result c.outside_in_stmt-in-For.result c.or-in-For-3.result
    (two_parts known (init ++ test) change (init ++ test ++ change) c.or-in-For.result c.outside_in_branch-in-For-2.result c.or-in-For-2.result
    (two_parts known init test (init ++ test) c.outside_in_branch-in-For.result c.outside_in_value-in-For.result c.or-in-For.result c.outside_in_branch-in-For.ensures c.outside_in_value-in-For.ensures c.or-in-For.ensures refl)
    c.outside_in_branch-in-For-2.ensures c.or-in-For-2.ensures refl)
    c.outside_in_stmt-in-For.ensures c.or-in-For-3.ensures
    (for_names c.args.stmt.now c.in-For.init c.in-For.test c.in-For.change c.get-in-For.result.now (c.in-For.is ∙ ap (run.For c.in-For.init c.in-For.test c.in-For.change) (sym c.get-in-For.ensures)))

pub outside_in_stmt-returns-in-Assign : goal.outside_in_stmt-returns-in-Assign
outside_in_stmt-returns-in-Assign t c =
    two_parts (known_names c.args.unit.now) (expr_names c.in-Assign.left) (expr_names c.in-Assign.right) (stmt_names c.args.stmt.now) c.outside_in_expr-in-Assign.result c.outside_in_expr-in-Assign-2.result c.or-in-Assign.result
    c.outside_in_expr-in-Assign.ensures c.outside_in_expr-in-Assign-2.ensures c.or-in-Assign.ensures (assign_names c.args.stmt.now c.in-Assign.left c.in-Assign.sign c.in-Assign.right c.in-Assign.is)

pub outside_in_stmts-returns-in-Some : goal.outside_in_stmts-returns-in-Some
outside_in_stmts-returns-in-Some t c =
    found (known_names c.args.unit.now) stmt_names c.args.all.now c.loop-one.one-index c.one-item.result c.in-Some.first c.loop-one-test.true c.one-item.is c.in-Some.ensures ∙ c.loop-one.invariant
