use Rattle.std.proofs.Common.{sym, ap, ◌∙◌}
use Rattle.jp_ast.specs.declared.stmt.StmtKind.TheVariants as run
use Rattle.type_flow.proofs.Completes.{completes_block}
use Rattle.type_flow.proofs.completing.+completes.Goals as goal

pub completes-returns-in-Block : goal.completes-returns-in-Block
completes-returns-in-Block t c =
    c.all_complete.ensures ∙ sym (completes_block c.args.stmt.now c.as_slice.result.now (c.in-Block.is ∙ ap run.Block (sym c.as_slice.ensures)))
