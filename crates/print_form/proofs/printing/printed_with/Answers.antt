use Rattle.std.proofs.Common.{◌≡◌, List, [], ◌∷◌, subst, sym, ◌∙◌, rules, tests}
use Rattle.std.specs.Prelude.{codes, MatchResult}
use Rattle.std.proofs.lemmas.Bool.{both_ways}
use Rattle.std.proofs.lemmas.Slice.Eq.{bytes_eq-Decides}
use Rattle.jp_ast.specs.declared.expr.Expr.{Expr}
use Rattle.print_form.specs.declared.literal.Literal.{Literal}
use Rattle.print_form.specs.Form.{IsLiteral}
use Rattle.print_form.proofs.Printed.{call_parts, call_gives}
use Rattle.print_form.proofs.printing.printed_with.Goals as goal
use Rattle.print_form.proofs.printing.printed_with.Goals.{else-is_io-via-then-is_io+else-eq, else-is_io-via-else-is_io}

pub returns-then-eq : goal.returns-then-eq
returns-then-eq c =
    let called : c.in-Call.name ≡ codes "print" = search (rules, tests) in
    call_gives c.lone_literal.result c.args.call.now c.in-Call.object c.in-Call.name c.in-Call.args c.in-Call.is called (c.is_io.ensures.0 c.if-is_io.true)
    (subst (λ (xs : List Expr). MatchResult c.lone_literal.result (λ l. (a : Expr) × (xs ≡ a ∷ []) × IsLiteral l a) (λ _. (l : Literal) (a : Expr) → xs ≡ a ∷ [] → IsLiteral l a → ⊥)) c.as_slice-then-eq.ensures c.lone_literal.ensures)

pub returns-else-is_io : goal.returns-else-is_io
returns-else-is_io c = λ l call.
    let parts = call_parts c.args.call.now c.in-Call.object c.in-Call.name c.in-Call.args l c.in-Call.is call in
    elim c.else-is_io.branch [
      | else-is_io-via-then-is_io+else-eq w ↦ let named = parts.0 in let same : w.bytes.result.now ≡ w.as_slice.result.now = w.bytes.ensures ∙ named ∙ sym w.as_slice.ensures in both_ways w.eq.result w.if-eq.false (w.eq.ensures ∙ (bytes_eq-Decides w.bytes.result.now w.as_slice.result.now).1 same)
      | else-is_io-via-else-is_io w ↦ both_ways c.is_io.result w.if-is_io.false (c.is_io.ensures.1 parts.1)
    ]
