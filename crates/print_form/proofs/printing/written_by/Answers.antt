use Rattle.std.proofs.Common.{ℕ, ap, ◌∙◌, subst}
use Rattle.std.specs.Prelude.{MatchResult, IsTrue}
use Rattle.jp_ast.specs.declared.expr.Expr.{Expr}
use Rattle.jp_ast.specs.declared.expr.ExprKind.TheVariants as expr
use Rattle.print_form.specs.declared.literal.Literal.{Literal}
use Rattle.print_form.specs.Form.{IsNumber}
use Rattle.print_form.proofs.Printed.{negated_gives}
use Rattle.print_form.proofs.printing.written_by.Goals as goal

pub returns-in-Unary : goal.returns-in-Unary
returns-in-Unary c =
    negated_gives c.negated.result c.args.argument.now c.in-Unary.right (c.in-Unary.is ∙ ap (λ (n : ℕ). expr.Unary n c.in-Unary.right) c.if-sign-eq-MINUS.true)
    (subst (λ (x : Expr). MatchResult c.negated.result (λ l. IsTrue l.negative × IsNumber l x) (λ _. (l : Literal) → IsNumber l x → ⊥)) c.get.ensures c.negated.ensures)
