-- Whatever begins an expression can be gone on with.
use Rattle.std.proofs.Common.{◌≡◌, ℕ, zero, suc, Bool, true, false, ◌||◌, ◌==◌, IsTrue, List, [], ◌∷◌, ◌++◌, refl, sym, ap, ◌∙◌, subst, inl, inr, ◌⊎◌}
use Rattle.std.proofs.lemmas.Bool.{eqb-true}
use Rattle.jp_ast.specs.declared.token.Token.{Token}
use Rattle.jp_ast.specs.declared.expr.Expr.{Expr}
use Rattle.jp_ast.specs.declared.sign.TheConstants as sign
use Rattle.jp_grammar.specs.declared.kind.Kind.{Kind}
use Rattle.jp_grammar.specs.declared.kind.Kind.TheVariants as k
use Rattle.jp_grammar.specs.Kinds.{Tokens, kind_of_token}
use Rattle.jp_grammar.specs.Trees.{number_at, text_at, truth_at, null_at, this_at, named_at, unary_at, super_at, new_at}
use Rattle.jp_grammar.specs.Expressions.{Expression, Level, Unary, Plain, Postfix, Primary, strongest, weaker, chain_end, unconditional, expression, negation, unary_plain, inversion, plain_postfix, postfix, steps_end, number, text, truth, falsehood, nothing, receiver, parenthesis, name, uncalled, super_call, new_object, no_args, closed, is_negation, is_inversion}
use Rattle.jp_grammar.specs.Behind.{begins_plain, negates, begins_expr}
use Rattle.jp_grammar.proofs.Excluding.{or_cases}
use Rattle.jp_grammar.proofs.Samples.{a_number, a_name, a_name_is, a_sign, zero_expr, unary_number, expression_number}
use Rattle.jp_grammar.proofs.Words.{number_token, text_token, name_token}
use Rattle.std.proofs.Common.{None}

primary_plain : {xs zs : Tokens} {t : Expr} → Primary xs t zs → Plain xs t zs
primary_plain p = plain_postfix (postfix p steps_end)

pub unary_level : (n : ℕ) {xs zs : Tokens} {t : Expr} → Unary xs t zs → Level n xs t zs
unary_level zero u = strongest u
unary_level (suc n) u = weaker (unary_level n u) chain_end

pub unary_expression : {xs zs : Tokens} {t : Expr} → Unary xs t zs → Expression xs t zs
unary_expression u = expression (unary_level 10 u) unconditional

-- the token goes on to a plain
abbrev pub GoesOn : Token → Tokens → Type 0
GoesOn s zs = (more : Tokens) × (t : Expr) × Plain (s ∷ (more ++ zs)) t zs

sign_begun : (s : Token) (b : ℕ) (zs : Tokens) → kind_of_token s ≡ k.Sign b → IsTrue (begins_plain (k.Sign b)) → GoesOn s zs
sign_begun s b zs e h = elim (or_cases (is_inversion b) (b == sign.OPEN_PAREN) h) [
  | inl i ↦ (a_number ∷ [], unary_at s.place b zero_expr, inversion e i (unary_number zs))
  | inr i ↦
      let same : b ≡ sign.OPEN_PAREN = eqb-true b sign.OPEN_PAREN i in
      let e' : kind_of_token s ≡ k.Sign sign.OPEN_PAREN = e ∙ ap k.Sign same in
      (a_number ∷ a_sign sign.CLOSE_PAREN ∷ [], zero_expr, primary_plain (parenthesis e' (closed (expression_number (a_sign sign.CLOSE_PAREN ∷ zs)) refl)))
]

kind_begun : (s : Token) (kind : Kind) (zs : Tokens) → kind_of_token s ≡ kind → IsTrue (begins_plain kind) → GoesOn s zs
kind_begun s k.Name zs e h = let w = name_token s e in ([], named_at s.place None w.0, primary_plain (name (uncalled w.1)))
kind_begun s k.Number zs e h = let w = number_token s e in ([], number_at s.place w.0 w.1, primary_plain (number w.2))
kind_begun s k.Text zs e h = let w = text_token s e in ([], text_at s.place w.0, primary_plain (text w.1))
kind_begun s k.True zs e h = ([], truth_at s.place true, primary_plain (truth e))
kind_begun s k.False zs e h = ([], truth_at s.place false, primary_plain (falsehood e))
kind_begun s k.Null zs e h = ([], null_at s.place, primary_plain (nothing e))
kind_begun s k.This zs e h = ([], this_at s.place, primary_plain (receiver e))
kind_begun s k.Super zs e h =
    (a_sign sign.DOT ∷ a_name ∷ a_sign sign.OPEN_PAREN ∷ a_sign sign.CLOSE_PAREN ∷ [], super_at s.place (97 ∷ []) [], primary_plain (super_call e refl a_name_is refl (no_args refl)))
kind_begun s k.New zs e h =
    (a_name ∷ a_sign sign.OPEN_PAREN ∷ a_sign sign.CLOSE_PAREN ∷ [], new_at s.place (97 ∷ []) [], primary_plain (new_object e a_name_is refl (no_args refl)))
kind_begun s (k.Sign b) zs e h = sign_begun s b zs e h
kind_begun s _ zs e h = cc

-- what begins a plain goes on to one
pub plain_begun : (s : Token) (zs : Tokens) → IsTrue (begins_plain (kind_of_token s)) → GoesOn s zs
plain_begun s zs h = kind_begun s (kind_of_token s) zs refl h

negates_begun : (s : Token) (kind : Kind) (zs : Tokens) → kind_of_token s ≡ kind → IsTrue (negates kind) → (more : Tokens) × (t : Expr) × Unary (s ∷ (more ++ zs)) t zs
negates_begun s (k.Sign b) zs e h = (a_number ∷ [], unary_at s.place b zero_expr, negation e h (unary_number zs))
negates_begun s _ zs e h = cc

-- what begins an expression goes on to one
pub expr_begun : (s : Token) (zs : Tokens) → IsTrue (begins_expr (kind_of_token s)) → (more : Tokens) × (t : Expr) × Expression (s ∷ (more ++ zs)) t zs
expr_begun s zs h = elim (or_cases (negates (kind_of_token s)) (begins_plain (kind_of_token s)) h) [
  | inl i ↦ let u = negates_begun s (kind_of_token s) zs refl i in (u.0, u.1, unary_expression u.2)
  | inr i ↦ let p = plain_begun s zs i in (p.0, p.1, unary_expression (unary_plain p.2))
]
