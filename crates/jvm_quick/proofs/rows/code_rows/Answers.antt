use Rattle.std.proofs.Common.{◌≡◌, ℕ, ◌+◌, List, Option, length, sym, subst, arith}
use Rattle.jvm_table.specs.declared.decode.Row.{Row}
use Rattle.jvm_quick.specs.Rows.{DoesAsAt}
use Rattle.jvm_quick.proofs.Filled.{AreFirst, first_none, first_more, code_all}
use Rattle.jvm_quick.proofs.rows.code_rows.Goals as goal

pub loop-place-init : goal.loop-place-init
loop-place-init c =
    let P = DoesAsAt c.args.file.now c.args.code.now in
    subst (λ (rows : List (Option Row)). AreFirst P 0 rows) (sym c.new-rows.ensures.items) (first_none P)

pub loop-place-preserved : goal.loop-place-preserved
loop-place-preserved c =
    let P = DoesAsAt c.args.file.now c.args.code.now in
    let l = c.loop-place in
    subst (λ (rows : List (Option Row)). AreFirst P (l.place + 1) rows) (sym c.in_ok-push.ensures.items)
    (first_more P l.place l.rows.items c.row_for.result l.invariant c.row_for.ensures)

pub returns : goal.returns
returns c =
    let P = DoesAsAt c.args.file.now c.args.code.now in
    let whole : c.loop-place.place ≡ length c.args.code.now = omega arith in
    code_all c.args.file.now c.args.code.now c.loop-place.rows.items (subst (λ (n : ℕ). AreFirst P n c.loop-place.rows.items) whole c.loop-place.invariant)
