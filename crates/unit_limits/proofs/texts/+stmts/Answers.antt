use Rattle.std.proofs.Common.{◌++◌, refl, sym, ap, ◌∙◌}
use Rattle.jp_ast.specs.declared.stmt.StmtKind.TheVariants as run
use Rattle.unit_limits.specs.Counting.{first_told}
use Rattle.unit_limits.specs.Texts.{in_option, expr_texts, stmt_texts}
use Rattle.unit_limits.proofs.Firsts.{found}
use Rattle.unit_limits.proofs.Shapes.{two_parts, block_texts, if_texts, while_texts, for_texts, assign_texts}
use Rattle.unit_limits.proofs.texts.+stmts.Goals as goal

pub over_in_stmt-returns-in-Block : goal.over_in_stmt-returns-in-Block
over_in_stmt-returns-in-Block t c =
    c.over_in_stmts.ensures ∙ ap first_told (sym (block_texts c.args.stmt.now c.as_slice.result.now (c.in-Block.is ∙ ap run.Block (sym c.as_slice.ensures))))

pub over_in_stmt-returns-in-If : goal.over_in_stmt-returns-in-If
over_in_stmt-returns-in-If t c =
    let test = expr_texts c.in-If.test in
    let first = stmt_texts c.get.result.now in
    let second = in_option stmt_texts c.in-If.no in
    two_parts (test ++ first) second (stmt_texts c.args.stmt.now) c.or.result c.over_in_branch.result c.or-in-If.result
    (two_parts test first (test ++ first) c.over_in_expr.result c.over_in_stmt.result c.or.result c.over_in_expr.ensures c.over_in_stmt.ensures c.or.ensures refl)
    c.over_in_branch.ensures c.or-in-If.ensures
    (if_texts c.args.stmt.now c.in-If.test c.get.result.now c.in-If.no (c.in-If.is ∙ (λ i. run.If c.in-If.test (sym c.get.ensures i) c.in-If.no)))

pub over_in_stmt-returns-in-While : goal.over_in_stmt-returns-in-While
over_in_stmt-returns-in-While t c =
    two_parts (expr_texts c.in-While.test) (stmt_texts c.get-in-While.result.now) (stmt_texts c.args.stmt.now) c.over_in_expr-in-While.result c.over_in_stmt-in-While.result c.or-in-While.result
    c.over_in_expr-in-While.ensures c.over_in_stmt-in-While.ensures c.or-in-While.ensures
    (while_texts c.args.stmt.now c.in-While.test c.get-in-While.result.now (c.in-While.is ∙ ap (run.While c.in-While.test) (sym c.get-in-While.ensures)))

pub over_in_stmt-returns-in-For : goal.over_in_stmt-returns-in-For
over_in_stmt-returns-in-For t c =
    let init = in_option stmt_texts c.in-For.init in
    let test = in_option expr_texts c.in-For.test in
    let change = in_option stmt_texts c.in-For.change in
    let body = stmt_texts c.get-in-For.result.now in
    two_parts (init ++ test ++ change) body (stmt_texts c.args.stmt.now) c.or-in-For-2.result c.over_in_stmt-in-For.result c.or-in-For-3.result
    (two_parts (init ++ test) change (init ++ test ++ change) c.or-in-For.result c.over_in_branch-in-For-2.result c.or-in-For-2.result
    (two_parts init test (init ++ test) c.over_in_branch-in-For.result c.over_in_value-in-For.result c.or-in-For.result c.over_in_branch-in-For.ensures c.over_in_value-in-For.ensures c.or-in-For.ensures refl)
    c.over_in_branch-in-For-2.ensures c.or-in-For-2.ensures refl)
    c.over_in_stmt-in-For.ensures c.or-in-For-3.ensures
    (for_texts c.args.stmt.now c.in-For.init c.in-For.test c.in-For.change c.get-in-For.result.now (c.in-For.is ∙ ap (run.For c.in-For.init c.in-For.test c.in-For.change) (sym c.get-in-For.ensures)))

pub over_in_stmt-returns-in-Assign : goal.over_in_stmt-returns-in-Assign
over_in_stmt-returns-in-Assign t c =
    two_parts (expr_texts c.in-Assign.left) (expr_texts c.in-Assign.right) (stmt_texts c.args.stmt.now) c.over_in_expr-in-Assign.result c.over_in_expr-in-Assign-2.result c.or-in-Assign.result
    c.over_in_expr-in-Assign.ensures c.over_in_expr-in-Assign-2.ensures c.or-in-Assign.ensures (assign_texts c.args.stmt.now c.in-Assign.left c.in-Assign.sign c.in-Assign.right c.in-Assign.is)

pub over_in_stmts-returns-in-Some : goal.over_in_stmts-returns-in-Some
over_in_stmts-returns-in-Some t c =
    found stmt_texts c.args.all.now c.loop-one.one-index c.one-item.result c.in-Some.over c.loop-one-test.true c.one-item.is c.in-Some.ensures ∙ c.loop-one.invariant
