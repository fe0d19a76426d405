use Rattle.std.proofs.Common.{refl, sym, ◌∙◌}
use Rattle.jp_ast.specs.declared.sign.TheConstants as sign
use Rattle.jp_grammar.specs.Kinds.{IsSign}
use Rattle.jp_parse_expr.proofs.Signs.{sign_is, sign_is_no}
use Rattle.jp_parse_stmt.proofs.LocalLines.{declares_value, declares_none}
use Rattle.jp_parse_stmt.proofs.local.declares.Goals as goal

pub returns-then-not-is_sign-clause-gives : goal.returns-then-not-is_sign-clause-gives
returns-then-not-is_sign-clause-gives c =
    let other : IsSign sign.SEMICOLON c.front.result.0.now → ⊥ = sign_is_no sign.SEMICOLON c.front.result.0.now (sym c.is_sign.ensures ∙ c.if-not-is_sign.true) in
    declares_value c.args.place (c.args.ty, c.args.name) c.front.result.0.now c.front.result.1.now c.args.tokens.now c.valued.result c.front.ensures.split other c.valued.ensures.gives

pub returns-clause-gives : goal.returns-clause-gives
returns-clause-gives c =
    let h : IsSign sign.SEMICOLON c.front.result.0.now = sign_is sign.SEMICOLON c.front.result.0.now (sym c.is_sign.ensures ∙ c.if-not-is_sign.false) in
    declares_none c.args.place (c.args.ty, c.args.name) c.front.result.0.now c.front.result.1.now c.args.tokens.now c.in_ok-tree.tree c.front.result.1 c.front.ensures.split h refl c.in_ok-tree.ensures
