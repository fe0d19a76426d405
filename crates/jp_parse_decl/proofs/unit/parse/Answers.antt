use Rattle.std.proofs.lemmas.Result.{err_from_is_err_and}
use Rattle.jp_parse_decl.proofs.UnitFacts.{unit_parsed, unit_fault}
use Rattle.jp_parse_decl.proofs.unit.parse.Goals as goal

pub returns-in_err-decls : goal.returns-in_err-decls
returns-in_err-decls c =
    let p = err_from_is_err_and c.from_residual.result c.from_residual.ensures.1 in
    rw (p.1, p.2) (unit_fault c.args.tokens.now c.in_err-decls.field-0.0 c.in_err-decls.ensures)

pub returns : goal.returns
returns c =
    unit_parsed c.args.tokens.now c.in_ok-decls.decls c.in_ok-decls.ensures
