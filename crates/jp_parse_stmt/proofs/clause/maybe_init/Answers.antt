use Rattle.std.proofs.Common.{refl, sym, ◌∙◌}
use Rattle.std.proofs.lemmas.Result.{err_from_is_err_and}
use Rattle.jp_ast.specs.declared.sign.TheConstants as sign
use Rattle.jp_grammar.specs.Kinds.{IsSign}
use Rattle.jp_parse_expr.proofs.Signs.{sign_is, sign_is_no}
use Rattle.jp_parse_stmt.specs.Parts.{Shallow}
use Rattle.jp_parse_stmt.proofs.Sealing.{maybe_none, maybe_fails, maybe_some}
use Rattle.jp_parse_stmt.proofs.Inits.{init_no_semicolon, init_shorter}
use Rattle.jp_parse_stmt.proofs.clause.maybe_init.Goals as goal

pub returns-then-is_sign-clause-gives : goal.returns-then-is_sign-clause-gives
returns-then-is_sign-clause-gives c =
    let h : IsSign sign.SEMICOLON c.front.result.0.now = sign_is sign.SEMICOLON c.front.result.0.now (sym c.is_sign.ensures ∙ c.if-is_sign.true) in
    maybe_none sign.SEMICOLON Shallow init_no_semicolon init_shorter c.front.result.0.now c.front.result.1.now c.args.tokens.now c.front.ensures.split c.front.result.1 h refl

pub returns-in_err-tree-clause-gives : goal.returns-in_err-tree-clause-gives
returns-in_err-tree-clause-gives c =
    let p = err_from_is_err_and c.from_residual.result c.from_residual.ensures.1 in
    let other : IsSign sign.SEMICOLON c.front.result.0.now → ⊥ = sign_is_no sign.SEMICOLON c.front.result.0.now (sym c.is_sign.ensures ∙ c.if-is_sign.false) in
    rw (p.1, p.2) (maybe_fails sign.SEMICOLON Shallow init_no_semicolon init_shorter c.front.result.0.now c.front.result.1.now c.args.tokens.now c.front.ensures.split c.in_err-tree.field-0.0 other c.in_err-tree.ensures.gives)

pub returns-clause-gives : goal.returns-clause-gives
returns-clause-gives c =
    let other : IsSign sign.SEMICOLON c.front.result.0.now → ⊥ = sign_is_no sign.SEMICOLON c.front.result.0.now (sym c.is_sign.ensures ∙ c.if-is_sign.false) in
    maybe_some sign.SEMICOLON Shallow init_no_semicolon init_shorter c.front.result.0.now c.front.result.1.now c.args.tokens.now c.front.ensures.split c.in_ok-tree.tree c.in_ok-tree.rest other c.in_ok-tree.ensures.gives
