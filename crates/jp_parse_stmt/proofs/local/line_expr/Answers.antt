use Rattle.std.proofs.Common.{◌≤◌}
use Rattle.std.proofs.lemmas.Result.{err_from_is_err_and}
use Rattle.jp_ast.specs.declared.sign.TheConstants as sign
use Rattle.jp_grammar.specs.Depth.{depth as depth_of}
use Rattle.jp_ast.specs.declared.expr.Expr.{Expr}
use Rattle.jp_parse_stmt.proofs.Sealing.{shut_fails, shut_wrong, shut_gets}
use Rattle.jp_parse_stmt.proofs.LocalLines.{semicolon_full}
use Rattle.jp_parse_stmt.proofs.local.line_expr.Goals as goal

pub returns-in_err-tree-clause-gives : goal.returns-in_err-tree-clause-gives
returns-in_err-tree-clause-gives c =
    let p = err_from_is_err_and c.from_residual.result c.from_residual.ensures.1 in
    rw (p.1, p.2) (shut_fails sign.SEMICOLON (λ (t : Expr). depth_of t ≤ 200) semicolon_full c.args.tokens.now c.in_err-tree.field-0.0 c.in_err-tree.ensures.gives)

pub returns-in_err-rest-clause-gives : goal.returns-in_err-rest-clause-gives
returns-in_err-rest-clause-gives c =
    let p = err_from_is_err_and c.from_residual-in_err-rest.result c.from_residual-in_err-rest.ensures.1 in
    let g = c.in_ok-tree.ensures.gives in
    rw (p.1, p.2) (shut_wrong sign.SEMICOLON (λ (t : Expr). depth_of t ≤ 200) semicolon_full c.args.tokens.now c.in_ok-tree.behind.now c.in_ok-tree.tree c.in_err-rest.field-0.0 g.0 g.1 c.in_err-rest.ensures.gives)

pub returns-clause-gives : goal.returns-clause-gives
returns-clause-gives c =
    let g = c.in_ok-tree.ensures.gives in
    shut_gets sign.SEMICOLON (λ (t : Expr). depth_of t ≤ 200) semicolon_full c.args.tokens.now c.in_ok-tree.behind.now c.in_ok-tree.tree c.in_ok-rest.rest g.0 g.1 c.in_ok-rest.ensures.gives
