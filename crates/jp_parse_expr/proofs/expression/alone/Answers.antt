use Rattle.std.proofs.Common.{◌≡◌, sym, arith}
use Rattle.std.proofs.lemmas.Result.{err_from_is_err_and}
use Rattle.jp_parse_expr.proofs.Literals.{literal_found, literal_wrong, literal_depth, literal_no_end}
use Rattle.jp_parse_expr.proofs.expression.alone.Goals as goal

pub returns-in_err-tree-clause-gives : goal.returns-in_err-tree-clause-gives
returns-in_err-tree-clause-gives c =
    let p = err_from_is_err_and c.from_residual.result c.from_residual.ensures.1 in
    rw (p.1, p.2) (literal_wrong c.args.most c.args.first.now c.args.rest.now c.in_err-tree.field-0.0 c.requires.single c.requires.room c.in_err-tree.ensures)

pub returns-clause-gives : goal.returns-clause-gives
returns-clause-gives c =
    let e = c.in_ok-tree.ensures in
    let d = literal_depth c.args.first.now.place c.args.first.now.lexeme c.in_ok-tree.tree e in
    (literal_found c.args.first.now c.args.rest.now c.in_ok-tree.tree c.requires.single e, sym d, c.requires.room)

pub returns-clause-rest : goal.returns-clause-rest
returns-clause-rest c = (c.requires.text (literal_no_end c.args.first.now.place c.args.first.now.lexeme c.in_ok-tree.tree c.in_ok-tree.ensures), omega arith)
