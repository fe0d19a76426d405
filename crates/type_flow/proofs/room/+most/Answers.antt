use Rattle.std.proofs.Common.{sym, ◌∙◌}
use Rattle.jp_ast.specs.declared.stmt.StmtKind.TheVariants as run
use Rattle.type_flow.proofs.Counts.{for_counted, none_counted, one_counted, all_counted}
use Rattle.type_flow.proofs.room.+most.Goals as goal

pub most_of-returns-in-For : goal.most_of-returns-in-For
most_of-returns-in-For t c d e =
    for_counted c.args.stmt.now c.in-For.init c.in-For.test c.in-For.change c.get-in-For.result.now d c.most_of_option-before.result c.behind_option-inside.result c.most_of_option-changing.result c.most_of-in-For.result
    c.max-in-For.result c.max-in-For-2.result (c.in-For.is ∙ (λ i. run.For c.in-For.init c.in-For.test c.in-For.change (sym c.get-in-For.ensures i)))
    (c.most_of_option-before.ensures d e) (c.behind_option-inside.ensures d e) c.most_of_option-changing.ensures c.most_of-in-For.ensures c.max-in-For.ensures c.max-in-For-2.ensures

pub most_of_all-loop-stmt-init : goal.most_of_all-loop-stmt-init
most_of_all-loop-stmt-init t c d e = none_counted d c.args.block.now c.args.begin e

pub most_of_all-loop-stmt-preserved : goal.most_of_all-loop-stmt-preserved
most_of_all-loop-stmt-preserved t c d e =
    one_counted d c.args.block.now c.loop-stmt.stmt-index c.stmt-item.result c.loop-stmt.most c.loop-stmt.now c.most_of.result c.max-most.result c.behind-now.result c.loop-stmt-test.true c.stmt-item.is (c.loop-stmt.invariant d e) c.most_of.ensures c.behind-now.ensures c.max-most.ensures

pub most_of_all-returns : goal.most_of_all-returns
most_of_all-returns t c d e = all_counted d c.args.block.now c.loop-stmt.stmt-index c.loop-stmt.most c.loop-stmt.now c.loop-stmt-test.false (c.loop-stmt.invariant d e)
