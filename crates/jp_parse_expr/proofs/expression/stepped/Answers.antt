use Rattle.std.proofs.Common.{◌≡◌, ℕ, ◌≤◌, List, sym, ap, ◌∙◌, subst, rules, arith}
use Rattle.jp_ast.specs.declared.sign.TheConstants as sign
use Rattle.jp_grammar.specs.Kinds.{IsSign}
use Rattle.jp_parse_expr.proofs.Postfixes.{postfix_wrong}
use Rattle.jp_parse_expr.proofs.expression.stepped.Goals as goal

pub returns-then-sign-ne-OPEN_PAREN-clause-gives : goal.returns-then-sign-ne-OPEN_PAREN-clause-gives
returns-then-sign-ne-OPEN_PAREN-clause-gives c =
    let h : IsSign c.in-Sign.sign c.front.result.0.now = sym c.kind_of.ensures ∙ c.in-Sign.is in
    let other : c.in-Sign.sign ≡ sign.OPEN_PAREN → ⊥ = λ e. absurd (omega (arith, e, c.if-sign-ne-OPEN_PAREN.true)) in
    postfix_wrong c.args.most c.in-Sign.sign c.front.result.0.now c.front.result.1.now c.args.tokens.now c.refused.result c.requires.room c.front.ensures.split h other c.refused.ensures
