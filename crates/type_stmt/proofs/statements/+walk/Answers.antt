use Rattle.std.proofs.Common.{◌≡◌, ℕ, ◌≤◌, length, Some, sym, ap, ◌∙◌, subst, arith, rules}
use Rattle.std.specs.Option.{option_map}
use Rattle.std.proofs.lemmas.Result.{IfOk-weaker, on_ok_weaker}
use Rattle.jp_ast.specs.declared.stmt.StmtKind.TheVariants as run
use Rattle.type_rules.specs.declared.scope.Scope.{Scope}
use Rattle.type_rules.specs.Statements.{count, in_loop, after_init, flow_most, flow}
use Rattle.type_stmt.proofs.Walked.{walks_block, walks_empty, walks_local, if_walked, while_walked, for_walked, walks_break, walks_continue, walks_return, walks_assign, walks_bump, walks_alone, option_not_walked, option_walked}
use Rattle.type_stmt.proofs.Rooms.{room_block, room_local, room_first, room_second, room_while, room_before, room_change, room_body, room_init, restored_one, restored_init, restored_along, after_block, after_empty, after_local, after_if, after_while, after_for, after_break, after_continue, after_return, after_assign, after_bump, after_alone}
use Rattle.type_stmt.proofs.Lines.{begins, at_next, first_fits, goes_on, at_end, all_walked, all_behind}
use Rattle.type_stmt.proofs.statements.+walk.Goals as goal

-- BLOCKS

pub walk-returns-in_ok-all-in-Block-clause-walks : goal.walk-returns-in_ok-all-in-Block-clause-walks
walk-returns-in_ok-all-in-Block-clause-walks t c =
    walks_block c.args.scope.now c.args.stmt.now c.as_slice.result.now _ _ _ c.block.result (c.in-Block.is ∙ ap run.Block (sym c.as_slice.ensures)) c.in_ok-all-in-Block.ensures.walks c.block.ensures

pub walk-returns-in_ok-all-in-Block-clause-after : goal.walk-returns-in_ok-all-in-Block-clause-after
walk-returns-in_ok-all-in-Block-clause-after t c = c.in_ok-all-in-Block.ensures.kept ∙ sym (after_block c.args.stmt.now c.args.scope.now _ c.in-Block.is)

pub walk-returns-in-Empty-clause-walks : goal.walk-returns-in-Empty-clause-walks
walk-returns-in-Empty-clause-walks t c = walks_empty c.args.scope.now c.args.stmt.now _ c.in-Empty.is

pub walk-returns-in-Empty-clause-after : goal.walk-returns-in-Empty-clause-after
walk-returns-in-Empty-clause-after t c = sym (after_empty c.args.stmt.now c.args.scope.now c.in-Empty.is)

-- DECLARATIONS

pub walk-local-requires : goal.walk-local-requires
walk-local-requires t c = omega (arith, room_local c.args.stmt.now c.args.scope.now 255 c.requires.most c.in-Local.ty c.in-Local.name c.in-Local.value c.in-Local.is)

pub walk-returns-in_ok-value-in-Local-clause-walks : goal.walk-returns-in_ok-value-in-Local-clause-walks
walk-returns-in_ok-value-in-Local-clause-walks t c =
    IfOk-weaker c.local.result _ _ (λ made s. walks_local c.args.scope.now c.args.stmt.now c.in-Local.ty c.in-Local.name c.in-Local.value _ _ _ _ made c.in-Local.is c.in_ok-value-in-Local.ensures s) c.local.ensures.settles

pub walk-returns-in_ok-value-in-Local-clause-after : goal.walk-returns-in_ok-value-in-Local-clause-after
walk-returns-in_ok-value-in-Local-clause-after t c =
    on_ok_weaker c.local.result (λ e. e ∙ sym (after_local c.args.stmt.now c.args.scope.now c.in-Local.ty c.in-Local.name c.in-Local.value c.in-Local.is)) c.local.ensures.after

-- BRANCHES

pub walk-returns-in_ok-no-in-If-clause-walks : goal.walk-returns-in_ok-no-in-If-clause-walks
walk-returns-in_ok-no-in-If-clause-walks t c =
    if_walked c.args.scope.now c.inside.new.scope c.inside_option.new.scope c.args.stmt.now c.in-If.test c.get.result.now c.in-If.no _ _ _ _ _ _ _ _ c.branch-scope.result
    (c.in-If.is ∙ (λ i. run.If c.in-If.test (sym c.get.ensures i) c.in-If.no)) c.in_ok-test-in-If.ensures c.in_ok-yes-in-If.ensures.walks c.in_ok-yes-in-If.ensures.kept
    c.in_ok-no-in-If.ensures.walks c.in_ok-no-in-If.ensures.kept c.branch-scope.ensures

pub walk-returns-in_ok-no-in-If-clause-after : goal.walk-returns-in_ok-no-in-If-clause-after
walk-returns-in_ok-no-in-If-clause-after t c =
    c.in_ok-no-in-If.ensures.kept ∙ (c.in_ok-yes-in-If.ensures.kept ∙ sym (after_if c.args.stmt.now c.args.scope.now c.in-If.test c.in-If.yes c.in-If.no c.in-If.is))

-- LOOPS

pub walk-returns-in_ok-body-in-While-clause-walks : goal.walk-returns-in_ok-body-in-While-clause-walks
walk-returns-in_ok-body-in-While-clause-walks t c =
    while_walked c.args.scope.now c.loop_body.new.scope c.args.stmt.now c.in-While.test c.get-in-While.result.now _ _ _ _ _ _ c.while_loop.result
    (c.in-While.is ∙ (λ i. run.While c.in-While.test (sym c.get-in-While.ensures i))) c.in_ok-test-in-While.ensures c.in_ok-body-in-While.ensures.walks c.in_ok-body-in-While.ensures.kept c.while_loop.ensures

pub walk-returns-in_ok-body-in-While-clause-after : goal.walk-returns-in_ok-body-in-While-clause-after
walk-returns-in_ok-body-in-While-clause-after t c =
    c.in_ok-body-in-While.ensures.kept ∙ sym (after_while c.args.stmt.now c.args.scope.now c.in-While.test c.in-While.body c.in-While.is)

pub walk-option_fits-requires-clause-variables : goal.walk-option_fits-requires-clause-variables
walk-option_fits-requires-clause-variables t c =
    subst (λ (z : Scope). length z.variables ≤ 255) (sym c.in_ok-init-in-For.ensures.after)
    (room_init c.in-For.init c.args.scope.now 255 c.requires.variables (room_before c.args.stmt.now c.args.scope.now 255 c.requires.most c.in-For.init c.in-For.test c.in-For.change c.in-For.body c.in-For.is))

pub walk-option_fits-requires-clause-most : goal.walk-option_fits-requires-clause-most
walk-option_fits-requires-clause-most t c =
    subst (λ (z : Scope). flow_most (option_map flow c.in-For.change) z ≤ 255) (sym c.in_ok-init-in-For.ensures.after)
    (room_change c.args.stmt.now c.args.scope.now 255 c.requires.most c.in-For.init c.in-For.test c.in-For.change c.in-For.body c.in-For.is)

pub walk-body_fits-requires-clause-variables : goal.walk-body_fits-requires-clause-variables
walk-body_fits-requires-clause-variables t c =
    subst (λ (z : Scope). length z.variables ≤ 255) (sym (c.in_ok-change-in-For.ensures.kept ∙ c.in_ok-init-in-For.ensures.after))
    (room_init c.in-For.init c.args.scope.now 255 c.requires.variables (room_before c.args.stmt.now c.args.scope.now 255 c.requires.most c.in-For.init c.in-For.test c.in-For.change c.in-For.body c.in-For.is))

pub walk-body_fits-requires-clause-most : goal.walk-body_fits-requires-clause-most
walk-body_fits-requires-clause-most t c =
    subst (λ (z : Scope). (flow c.get-body.result.now (in_loop z)).most ≤ 255) (sym (c.in_ok-change-in-For.ensures.kept ∙ c.in_ok-init-in-For.ensures.after))
    (room_body c.args.stmt.now c.args.scope.now 255 c.requires.most c.in-For.init c.in-For.test c.in-For.change c.get-body.result.now
    (c.in-For.is ∙ (λ i. run.For c.in-For.init c.in-For.test c.in-For.change (sym c.get-body.ensures i))))

pub walk-returns-in_ok-body-in-For-clause-walks : goal.walk-returns-in_ok-body-in-For-clause-walks
walk-returns-in_ok-body-in-For-clause-walks t c =
    for_walked c.args.scope.now c.walk_option.new.scope c.inside_option-in-For.new.scope (record c.loop_body-in-For.new.scope { variables = c.cut.new.variables }) c.args.stmt.now
    c.in-For.init c.in-For.test c.in-For.change c.get-body.result.now _ _ _ _ _ _ c.in_ok-init-in-For.init c.in_ok-test-in-For.test c.in_ok-change-in-For.change c.in_ok-body-in-For.body c.for_loop.result
    (c.in-For.is ∙ (λ i. run.For c.in-For.init c.in-For.test c.in-For.change (sym c.get-body.ensures i))) c.in_ok-init-in-For.ensures.walks c.in_ok-init-in-For.ensures.after c.in_ok-test-in-For.ensures
    c.in_ok-change-in-For.ensures.walks c.in_ok-change-in-For.ensures.kept c.in_ok-body-in-For.ensures.walks
    (restored_init c.in-For.init c.args.scope.now c.loop_body-in-For.new.scope c.len-mark.result c.cut.new.variables
    (c.in_ok-body-in-For.ensures.kept ∙ (c.in_ok-change-in-For.ensures.kept ∙ c.in_ok-init-in-For.ensures.after)) c.len-mark.ensures c.cut.ensures) c.for_loop.ensures

pub walk-returns-in_ok-body-in-For-clause-after : goal.walk-returns-in_ok-body-in-For-clause-after
walk-returns-in_ok-body-in-For-clause-after t c =
    restored_init c.in-For.init c.args.scope.now c.loop_body-in-For.new.scope c.len-mark.result c.cut.new.variables
    (c.in_ok-body-in-For.ensures.kept ∙ (c.in_ok-change-in-For.ensures.kept ∙ c.in_ok-init-in-For.ensures.after)) c.len-mark.ensures c.cut.ensures
    ∙ sym (after_for c.args.stmt.now c.args.scope.now c.in-For.init c.in-For.test c.in-For.change c.in-For.body c.in-For.is)

-- JUMPS AND EXPRESSIONS

pub walk-returns-in-Break-clause-walks : goal.walk-returns-in-Break-clause-walks
walk-returns-in-Break-clause-walks t c = walks_break c.args.scope.now c.args.stmt.now _ _ c.jump.result c.in-Break.is c.jump.ensures

pub walk-returns-in-Break-clause-after : goal.walk-returns-in-Break-clause-after
walk-returns-in-Break-clause-after t c = sym (after_break c.args.stmt.now c.args.scope.now c.in-Break.is)

pub walk-returns-in-Continue-clause-walks : goal.walk-returns-in-Continue-clause-walks
walk-returns-in-Continue-clause-walks t c = walks_continue c.args.scope.now c.args.stmt.now _ _ c.jump-in-Continue.result c.in-Continue.is c.jump-in-Continue.ensures

pub walk-returns-in-Continue-clause-after : goal.walk-returns-in-Continue-clause-after
walk-returns-in-Continue-clause-after t c = sym (after_continue c.args.stmt.now c.args.scope.now c.in-Continue.is)

pub walk-returns-in_ok-value-in-Return-clause-walks : goal.walk-returns-in_ok-value-in-Return-clause-walks
walk-returns-in_ok-value-in-Return-clause-walks t c =
    walks_return c.args.scope.now c.args.stmt.now c.in-Return.value _ _ _ _ c.returned.result c.in-Return.is c.in_ok-value-in-Return.ensures c.returned.ensures

pub walk-returns-in_ok-value-in-Return-clause-after : goal.walk-returns-in_ok-value-in-Return-clause-after
walk-returns-in_ok-value-in-Return-clause-after t c = sym (after_return c.args.stmt.now c.args.scope.now c.in-Return.value c.in-Return.is)

pub walk-returns-in_ok-value-in-Assign-clause-walks : goal.walk-returns-in_ok-value-in-Assign-clause-walks
walk-returns-in_ok-value-in-Assign-clause-walks t c =
    walks_assign c.args.scope.now c.args.stmt.now c.in-Assign.left _ c.in-Assign.right _ _ _ _ _ _ c.assign.result c.in-Assign.is c.in_ok-to-in-Assign.ensures c.in_ok-value-in-Assign.ensures c.assign.ensures

pub walk-returns-in_ok-value-in-Assign-clause-after : goal.walk-returns-in_ok-value-in-Assign-clause-after
walk-returns-in_ok-value-in-Assign-clause-after t c = sym (after_assign c.args.stmt.now c.args.scope.now c.in-Assign.left c.in-Assign.sign c.in-Assign.right c.in-Assign.is)

pub walk-returns-in_ok-to-in-Bump-clause-walks : goal.walk-returns-in_ok-to-in-Bump-clause-walks
walk-returns-in_ok-to-in-Bump-clause-walks t c =
    walks_bump c.args.scope.now c.args.stmt.now c.in-Bump.left c.in-Bump.up _ _ _ _ c.bump.result c.in-Bump.is c.in_ok-to-in-Bump.ensures c.bump.ensures

pub walk-returns-in_ok-to-in-Bump-clause-after : goal.walk-returns-in_ok-to-in-Bump-clause-after
walk-returns-in_ok-to-in-Bump-clause-after t c = sym (after_bump c.args.stmt.now c.args.scope.now c.in-Bump.left c.in-Bump.up c.in-Bump.is)

pub walk-returns-in_ok-part-in-Run-clause-walks : goal.walk-returns-in_ok-part-in-Run-clause-walks
walk-returns-in_ok-part-in-Run-clause-walks t c =
    walks_alone c.args.scope.now c.args.stmt.now c.in-Run.expr _ _ _ _ c.alone.result c.in-Run.is c.in_ok-part-in-Run.ensures c.alone.ensures

pub walk-returns-in_ok-part-in-Run-clause-after : goal.walk-returns-in_ok-part-in-Run-clause-after
walk-returns-in_ok-part-in-Run-clause-after t c = sym (after_alone c.args.stmt.now c.args.scope.now c.in-Run.expr c.in-Run.is)

-- LISTS

pub walk_inside-returns-clause-kept : goal.walk_inside-returns-clause-kept
walk_inside-returns-clause-kept t c =
    restored_along c.args.block.now c.args.scope.now c.walk_all.new.scope c.len-mark.result c.cut.new.variables c.in_ok-made.ensures.after c.len-mark.ensures c.cut.ensures

pub walk_all-stmt_fits-requires-clause-variables : goal.walk_all-stmt_fits-requires-clause-variables
walk_all-stmt_fits-requires-clause-variables t c =
    c.loop-stmt.invariant.room

pub walk_all-stmt_fits-requires-clause-most : goal.walk_all-stmt_fits-requires-clause-most
walk_all-stmt_fits-requires-clause-most t c =
    first_fits c.args.scope.now c.loop-stmt.scope c.args.block.now _ c.stmt-item.result _ _ _
    (at_next c.args.scope.now c.loop-stmt.scope c.args.block.now c.loop-stmt.stmt-index c.stmt-item.result _ _ _ c.loop-stmt-test.true c.stmt-item.is c.loop-stmt.invariant)

pub walk_all-loop-stmt-init : goal.walk_all-loop-stmt-init
walk_all-loop-stmt-init t c = begins c.args.scope.now c.args.block.now _ (Some c.new.result) (ap Some c.new.ensures) c.requires.variables c.requires.most

pub walk_all-loop-stmt-preserved : goal.walk_all-loop-stmt-preserved
walk_all-loop-stmt-preserved t c =
    goes_on c.args.scope.now c.loop-stmt.scope c.walk.new.scope c.args.block.now _ c.stmt-item.result _ _ _ _ _ _
    (at_next c.args.scope.now c.loop-stmt.scope c.args.block.now c.loop-stmt.stmt-index c.stmt-item.result _ _ _ c.loop-stmt-test.true c.stmt-item.is c.loop-stmt.invariant)
    c.in_ok-made.ensures.walks c.in_ok-made.ensures.after c.in_ok-done.ensures

pub walk_all-returns-clause-walks : goal.walk_all-returns-clause-walks
walk_all-returns-clause-walks t c =
    all_walked c.args.scope.now c.loop-stmt.scope c.args.block.now _ _ _ (at_end c.args.scope.now c.loop-stmt.scope c.args.block.now c.loop-stmt.stmt-index _ _ _ c.loop-stmt-test.false c.loop-stmt.invariant)

pub walk_all-returns-clause-after : goal.walk_all-returns-clause-after
walk_all-returns-clause-after t c =
    all_behind c.args.scope.now c.loop-stmt.scope c.args.block.now _ _ _ (at_end c.args.scope.now c.loop-stmt.scope c.args.block.now c.loop-stmt.stmt-index _ _ _ c.loop-stmt-test.false c.loop-stmt.invariant)
