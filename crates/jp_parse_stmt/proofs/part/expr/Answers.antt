use Rattle.std.proofs.lemmas.List.{take_rest}
use Rattle.jp_parse_expr.proofs.Runs.{text_drop}
use Rattle.jp_parse_stmt.proofs.Texts.{drop_short}
use Rattle.jp_parse_stmt.proofs.part.expr.Goals as goal

pub returns-clause-rest : goal.returns-clause-rest
returns-clause-rest c =
    let g = c.in_ok-tree.ensures in
    (rw take_rest (text_drop c.in_ok-tree.at c.args.tokens.now c.requires g.2), rw take_rest (drop_short c.in_ok-tree.at c.args.tokens.now))
