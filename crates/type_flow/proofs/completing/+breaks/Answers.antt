use Rattle.std.proofs.Common.{sym, ap, ◌∙◌}
use Rattle.jp_ast.specs.declared.stmt.StmtKind.TheVariants as run
use Rattle.type_flow.proofs.Completes.{breaks_block}
use Rattle.type_flow.proofs.completing.+breaks.Goals as goal

pub breaks-returns-in-Block : goal.breaks-returns-in-Block
breaks-returns-in-Block t c =
    c.any_breaks.ensures ∙ sym (breaks_block c.args.stmt.now c.as_slice.result.now (c.in-Block.is ∙ ap run.Block (sym c.as_slice.ensures)))
