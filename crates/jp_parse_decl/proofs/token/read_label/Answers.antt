use Rattle.std.proofs.lemmas.Result.{err_from_is_err_and}
use Rattle.jp_parse_decl.proofs.Tokens.{label_wrong, label_found}
use Rattle.jp_parse_decl.proofs.token.read_label.Goals as goal

pub returns-in_err-name-clause-gives : goal.returns-in_err-name-clause-gives
returns-in_err-name-clause-gives c =
    let p = err_from_is_err_and c.from_residual.result c.from_residual.ensures.1 in
    rw (p.1, p.2) (label_wrong c.front.result.0.now c.front.result.1.now c.args.tokens.now c.front.ensures.split c.in_err-name.field-0.0 c.in_err-name.ensures)

pub returns-clause-gives : goal.returns-clause-gives
returns-clause-gives c =
    (label_found c.front.result.0.now c.front.result.1.now c.args.tokens.now c.front.ensures.split c.in_ok-name.name c.in_ok-name.ensures, tt)
