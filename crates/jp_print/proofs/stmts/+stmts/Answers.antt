use Rattle.std.proofs.Common.{◌≡◌, ◌++◌, ap, sym, ◌∙◌, option_map}
use Rattle.std.proofs.lemmas.Result.{on_ok_weaker}
use Rattle.jp_ast.specs.declared.stmt.Stmt.{Stmt}
use Rattle.jp_ast.specs.declared.stmt.StmtKind.{StmtKind}
use Rattle.jp_ast.specs.declared.stmt.StmtKind.TheOpen as s
use Rattle.jp_print.specs.Statements.{stmt_step, printed_stmt, whole, for_init, for_test, for_change}
use Rattle.jp_print.proofs.StmtEquations.{printed_continue, printed_for}
use Rattle.jp_print.proofs.Joined.{joined}
use Rattle.jp_print.proofs.stmts.+stmts.Goals as goal

pub put_inner-returns-in-Continue : goal.put_inner-returns-in-Continue
put_inner-returns-in-Continue t c =
    let stmt = c.args.stmt.now in
    let e : printed_stmt stmt ≡ stmt_step s.Continue = ap (λ (k : StmtKind). printed_stmt (record { place = stmt.place; kind = k })) c.in-Continue.is ∙ printed_continue stmt.place in
    rw e c.put_word-in-Continue.ensures

pub put_inner-returns-in_ok-put_for_change-in-For : goal.put_inner-returns-in_ok-put_for_change-in-For
put_inner-returns-in_ok-put_for_change-in-For t c =
    let stmt = c.args.stmt.now in
    let init = option_map printed_stmt c.in-For.init in
    let change = option_map printed_stmt c.in-For.change in
    let body = c.get-in-For.result.now in
    let e : printed_stmt stmt ≡ stmt_step (s.For init c.in-For.test change (printed_stmt body)) =
    ap (λ (k : StmtKind). printed_stmt (record { place = stmt.place; kind = k })) c.in-For.is
    ∙ printed_for stmt.place c.in-For.init c.in-For.test c.in-For.change c.in-For.body
    ∙ ap (λ (b : Stmt). stmt_step (s.For init c.in-For.test change (printed_stmt b))) (sym c.get-in-For.ensures) in
    let test = for_test c.in-For.test in
    rw e (on_ok_weaker c.put_stmt-in-For.result (λ d.
    joined _ _ _ (for_init init ++ test ++ for_change change) (whole (printed_stmt body))
    (joined _ _ _ (for_init init ++ test) (for_change change)
    (joined _ _ _ (for_init init) test c.in_ok-put_for_init-in-For.ensures c.in_ok-put_for_test-in-For.ensures)
    c.in_ok-put_for_change-in-For.ensures) d) c.put_stmt-in-For.ensures)
