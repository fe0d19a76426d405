use Rattle.gen_member.proofs.Doing.{do_block, do_local, do_if, do_while, do_for, do_break, do_continue, do_return, do_assign, do_bump, do_run, do_empty, none_done, more_done, all_done}
use Rattle.gen_member.proofs.stmt.+stmt.Goals as goal

pub put_stmt-returns-in-Block : goal.put_stmt-returns-in-Block
put_stmt-returns-in-Block t c = do_block c.args.s.now c.args.exits.out c.args.exits.back c.args.code.now _ c.put_block.result _ _ c.in-Block.is c.as_slice.ensures c.put_block.ensures

pub put_stmt-returns-in-Empty : goal.put_stmt-returns-in-Empty
put_stmt-returns-in-Empty t c = do_empty c.args.s.now c.args.exits.out c.args.exits.back c.args.code.now c.in-Empty.is

pub put_stmt-returns-in-Local : goal.put_stmt-returns-in-Local
put_stmt-returns-in-Local t c = do_local c.args.s.now c.args.exits.out c.args.exits.back c.args.code.now _ c.put_declared.result _ _ _ _ c.in-Local.is c.kind_of_type.ensures c.put_declared.ensures

pub put_stmt-returns-in_ok-first-in-If : goal.put_stmt-returns-in_ok-first-in-If
put_stmt-returns-in_ok-first-in-If t c =
    do_if c.args.s.now c.args.exits.out c.args.exits.back c.args.code.now _ c.put_else.result _ _ _ _ _ _ _ _ _ _ c.in-If.is c.get.ensures c.in_ok-label-in-If.ensures.first c.in_ok-label-in-If.ensures.more c.in_ok-label-in-If.ensures.lines
    c.in_ok-tested-in-If.ensures c.in_ok-first-in-If.ensures c.put_else.ensures

pub put_stmt-returns-in_ok-tested-in-While : goal.put_stmt-returns-in_ok-tested-in-While
put_stmt-returns-in_ok-tested-in-While t c =
    do_while c.args.s.now c.args.exits.out c.args.exits.back c.args.code.now _ c.put_body.result c.new_labels-in-While.new.self c.mark.new.self c.put_test-in-While.new.code _ _ _ _ _ c.in-While.is c.get-in-While.ensures c.in_ok-label-in-While.ensures.first
    c.in_ok-label-in-While.ensures.more c.in_ok-label-in-While.ensures.lines c.in_ok-mark-in-While.ensures.lines c.in_ok-mark-in-While.ensures.labels c.in_ok-tested-in-While.ensures c.put_body.ensures

pub put_stmt-returns-in_ok-inside-in-For : goal.put_stmt-returns-in_ok-inside-in-For
put_stmt-returns-in_ok-inside-in-For t c =
    do_for c.args.s.now c.args.exits.out c.args.exits.back c.args.code.now _ c.put_round.result c.put_maybe.new.code c.new_labels-in-For.new.self c.mark-in-For.new.self c.put_loop_test.new.code c.put_stmt-in-For.new.code _ _ _ _ _ _ _ _ _ _ _ c.in-For.is
    c.get-in-For.ensures c.in_ok-before-in-For.ensures c.in_ok-label-in-For.ensures.first c.in_ok-label-in-For.ensures.more c.in_ok-label-in-For.ensures.lines c.in_ok-mark-in-For.ensures.lines c.in_ok-mark-in-For.ensures.labels c.in_ok-tested-in-For.ensures
    c.exits_of.ensures.out c.exits_of.ensures.back c.in_ok-inside-in-For.ensures c.put_round.ensures

pub put_stmt-returns-in-Break : goal.put_stmt-returns-in-Break
put_stmt-returns-in-Break t c = do_break c.args.s.now c.args.exits.out c.args.exits.back c.args.code.now _ c.put_jump.result c.in-Break.is c.put_jump.ensures

pub put_stmt-returns-in-Continue : goal.put_stmt-returns-in-Continue
put_stmt-returns-in-Continue t c = do_continue c.args.s.now c.args.exits.out c.args.exits.back c.args.code.now _ c.put_jump-in-Continue.result c.in-Continue.is c.put_jump-in-Continue.ensures

pub put_stmt-returns-in-Return : goal.put_stmt-returns-in-Return
put_stmt-returns-in-Return t c = do_return c.args.s.now c.args.exits.out c.args.exits.back c.args.code.now _ c.put_return.result _ c.in-Return.is c.put_return.ensures

pub put_stmt-returns-in-Assign : goal.put_stmt-returns-in-Assign
put_stmt-returns-in-Assign t c = do_assign c.args.s.now c.args.exits.out c.args.exits.back c.args.code.now _ c.put_assign.result _ _ _ _ c.in-Assign.is c.change_of.ensures c.put_assign.ensures

pub put_stmt-returns-in-Bump : goal.put_stmt-returns-in-Bump
put_stmt-returns-in-Bump t c = do_bump c.args.s.now c.args.exits.out c.args.exits.back c.args.code.now _ c.put_bump.result _ _ c.in-Bump.is c.put_bump.ensures

pub put_stmt-returns-in-Run : goal.put_stmt-returns-in-Run
put_stmt-returns-in-Run t c = do_run c.args.s.now c.args.exits.out c.args.exits.back c.args.code.now _ c.put_done.result _ c.in-Run.is c.put_done.ensures

pub put_block-loop-one-init : goal.put_block-loop-one-init
put_block-loop-one-init t c = none_done c.args.code.now c.args.block.now c.args.exits.out c.args.exits.back

pub put_block-loop-one-preserved : goal.put_block-loop-one-preserved
put_block-loop-one-preserved t c =
    more_done c.args.code.now _ _ c.args.block.now c.loop-one.one-index _ _ _ _ _ _ c.loop-one-test.true c.one-item.is c.loop-one.invariant c.in_ok-more.ensures c.greater-need.ensures

pub put_block-returns : goal.put_block-returns
put_block-returns t c = all_done c.args.code.now _ c.args.block.now c.loop-one.one-index _ _ _ c.loop-one-test.false c.loop-one.invariant
