use Rattle.std.proofs.Common.{◌≡◌, refl, sym, ◌∙◌, ap, List, arith}
use Rattle.jp_ast.specs.declared.stmt.Stmt.{Stmt}
use Rattle.jp_ast.specs.declared.stmt.StmtKind.TheVariants as made
use Rattle.jp_parse_stmt.specs.Parts.{stmt_at}
use Rattle.std.proofs.lemmas.Grind.{common_steps}
use Rattle.jp_ast.specs.declared.sign.TheConstants as sign
use Rattle.jp_grammar.specs.Kinds.{IsSign}
use Rattle.jp_parse_expr.proofs.Signs.{sign_is, sign_is_no}
use Rattle.jp_parse_stmt.proofs.StmtBare.{bare_closed, bare_full, bare_refused}
use Rattle.jp_parse_stmt.proofs.flat.bare.Goals as goal

pub returns-then-is_sign-clause-gives : goal.returns-then-is_sign-clause-gives
returns-then-is_sign-clause-gives c =
    let h : IsSign sign.CLOSE_BRACE c.front.result.0.now = sign_is sign.CLOSE_BRACE c.front.result.0.now (sym c.is_sign.ensures ∙ c.if-is_sign.true) in
    bare_closed c.args.place c.front.result.0.now c.front.result.1.now c.args.tokens.now c.front.ensures.split c.in_ok-tree.tree c.front.result.1 refl h (c.front.ensures.text (λ e. cc)) (c.in_ok-tree.ensures ∙ ap (λ (x : List Stmt). stmt_at c.args.place (made.Block x)) c.new-list.ensures)

pub returns-then-begins_stmt-clause-gives : goal.returns-then-begins_stmt-clause-gives
returns-then-begins_stmt-clause-gives c =
    let other : IsSign sign.CLOSE_BRACE c.front.result.0.now → ⊥ = sign_is_no sign.CLOSE_BRACE c.front.result.0.now (sym c.is_sign.ensures ∙ c.if-is_sign.false) in
    bare_full c.args.place c.front.result.0.now c.front.result.1.now c.args.tokens.now c.front.ensures.split other (grind (arith, common_steps))

pub returns-clause-gives : goal.returns-clause-gives
returns-clause-gives c =
    let other : IsSign sign.CLOSE_BRACE c.front.result.0.now → ⊥ = sign_is_no sign.CLOSE_BRACE c.front.result.0.now (sym c.is_sign.ensures ∙ c.if-is_sign.false) in
    bare_refused c.args.place c.front.result.0.now c.front.result.1.now c.args.tokens.now c.front.ensures.split c.refused.result other (grind (arith, common_steps)) c.refused.ensures
