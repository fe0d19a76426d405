use Rattle.jp_parse_expr.proofs.expression.tested.Goals as goal
use Rattle.std.proofs.Common.{◌≡◌, arith, refl}
use Rattle.std.proofs.lemmas.Result.{err_from_is_err_and}
use Rattle.jp_parse_expr.proofs.Literals.{literal_found}
use Rattle.jp_parse_expr.proofs.Casts.{cast_full}
use Rattle.jp_parse_expr.proofs.Created.{array_wrong}
use Rattle.jp_parse_expr.proofs.Runs.{paren_run_gives}
use Rattle.jp_parse_expr.proofs.Wholes.{cast_gives}
use Rattle.jp_parse_expr.proofs.Calls.{depth_pushed}
use Rattle.jp_parse_expr.proofs.Rules.{class_fails, class_continues}

pub returns-in_err-class-clause-gives : goal.returns-in_err-class-clause-gives
returns-in_err-class-clause-gives c =
    let p = err_from_is_err_and c.from_residual.result c.from_residual.ensures.1 in
    rw (p.1, p.2) (class_fails c.args.place c.args.level c.args.most c.args.left c.args.first.now c.front.result.0.now c.front.result.1.now c.args.rest.now c.front.ensures.split c.requires.word c.requires.level (omega (arith, c.requires.depth, c.requires.most)) c.in_err-class.field-0.0 c.in_err-class.ensures)

pub returns-clause-gives : goal.returns-clause-gives
returns-clause-gives c =
    class_continues c.args.place c.args.level c.args.most c.args.left c.args.first.now c.front.result.0.now c.front.result.1.now c.args.rest.now c.front.ensures.split c.requires.word c.requires.level (omega (arith, c.requires.depth, c.requires.most))
    c.in_ok-class.class c.in_ok-tree.tree c.args.depth c.front.result.1 c.in_ok-class.ensures refl c.requires.depth c.in_ok-tree.ensures
