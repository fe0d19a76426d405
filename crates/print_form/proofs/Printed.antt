-- What a statement prints is told by its parts.
use Rattle.std.proofs.Common.{◌≡◌, ℕ, List, [], ◌∷◌, Option, Result, sym, ap, ◌∙◌, subst}
use Rattle.std.specs.Prelude.{Ok, Err, MatchResult, IsTrue, codes}
use Rattle.jp_ast.specs.declared.token.Place.{Place}
use Rattle.jp_ast.specs.declared.expr.Expr.{Expr}
use Rattle.jp_ast.specs.declared.expr.ExprKind.TheVariants as expr
use Rattle.jp_ast.specs.declared.stmt.Stmt.{Stmt}
use Rattle.jp_ast.specs.declared.stmt.StmtKind.TheVariants as stmt
use Rattle.jp_ast.specs.declared.sign.TheConstants as sign
use Rattle.print_form.specs.declared.literal.Literal.{Literal}
use Rattle.print_form.specs.Form.{IsNumber, IsWritten, plain, minus, IsLiteral, IsIo, IsCall, IsPrint}
use Rattle.print_form.proofs.Variants.{no_unary, unary_is, call_is, run_is}

negated_only : (l : Literal) (e inner : Expr) → e.kind ≡ expr.Unary sign.MINUS inner → IsWritten l e → IsNumber l inner
negated_only l e inner k (plain p a) = absurd (no_unary e.kind _ _ _ inner a k)
negated_only l e inner k (minus p x j a) = subst (IsNumber l) (unary_is e.kind _ _ x inner j k).1 a

-- a minus in front of an expression
pub negated_gives : (r : Result Literal Place) (e inner : Expr) → e.kind ≡ expr.Unary sign.MINUS inner → MatchResult r (λ l. IsTrue l.negative × IsNumber l inner) (λ _. (l : Literal) → IsNumber l inner → ⊥) → MatchResult r (λ l. IsWritten l e) (λ _. (l : Literal) → IsWritten l e → ⊥)
negated_gives (Ok l) e inner k n = minus n.0 inner k n.1
negated_gives (Err place) e inner k none = λ l w. none l (negated_only l e inner k w)

-- a statement of an expression
pub run_gives : (r : Result Literal Place) (s : Stmt) (call : Expr) → s.kind ≡ stmt.Run call → MatchResult r (λ l. IsCall l call) (λ _. (l : Literal) → IsCall l call → ⊥) → MatchResult r (λ l. IsPrint l s) (λ _. (l : Literal) → IsPrint l s → ⊥)
run_gives (Ok l) s call k c = record { call = call; runs = k; prints = c }
run_gives (Err place) s call k none = λ l p. none l (subst (IsCall l) (run_is s.kind p.call call p.runs k) p.prints)

-- a call of a name with arguments, on an object
pub call_gives : (r : Result Literal Place) (e : Expr) (object : Option Expr) (name : List ℕ) (args : List Expr) → e.kind ≡ expr.Call object name args → name ≡ codes "print" → IsIo object
    → MatchResult r (λ l. (a : Expr) × (args ≡ a ∷ []) × IsLiteral l a) (λ _. (l : Literal) (a : Expr) → args ≡ a ∷ [] → IsLiteral l a → ⊥)
    → MatchResult r (λ l. IsCall l e) (λ _. (l : Literal) → IsCall l e → ⊥)
call_gives (Ok l) e object name args k n o x =
    record { object = object; argument = x.0; calls = k ∙ ap (λ m. expr.Call object m args) n ∙ ap (expr.Call object (codes "print")) x.1; on_io = o; argument_is = x.2 }
call_gives (Err place) e object name args k n o none = λ l c.
    none l c.argument (call_is e.kind object c.object name (codes "print") args (c.argument ∷ []) k c.calls).2 c.argument_is

-- what is called, and on what, where a call prints
pub call_parts : (e : Expr) (object : Option Expr) (name : List ℕ) (args : List Expr) (l : Literal) → e.kind ≡ expr.Call object name args → IsCall l e → (name ≡ codes "print") × IsIo object
call_parts e object name args l k c =
    let same = call_is e.kind object c.object name (codes "print") args (c.argument ∷ []) k c.calls in
    (same.1, subst IsIo (sym same.0) c.on_io)
