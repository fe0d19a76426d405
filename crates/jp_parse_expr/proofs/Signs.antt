-- Tests of signs, and what they say.
use Rattle.std.proofs.Common.{◌≡◌, ℕ, Bool, true, false, ◌||◌, ◌==◌, IsTrue, List, [], ◌∷◌, Option, Some, refl, sym, ap, ◌∙◌, subst, inl, inr, ◌⊎◌, arith}
use Rattle.std.proofs.lemmas.Bool.{eqb-true, eq-eqb}
use Rattle.jp_ast.specs.declared.token.Token.{Token}
use Rattle.jp_ast.specs.declared.sign.TheConstants as sign
use Rattle.jp_grammar.specs.declared.kind.Kind.{Kind}
use Rattle.jp_grammar.specs.declared.kind.Kind.TheVariants as k
use Rattle.jp_grammar.specs.Kinds.{Is, IsSign, Tokens, kind_of_token, is_sign_kind, is_sign_of}
use Rattle.jp_grammar.specs.Expressions.{is_negation, is_inversion}
use Rattle.jp_grammar.specs.Behind.{begins_expr}
use Rattle.jp_grammar.proofs.Excluding.{or_cases, or_left, or_right}
use Rattle.jp_parse_expr.specs.Ahead.{is_cast, Opens}
use Rattle.jp_parse_expr.specs.Parts.{IsStep}

sign_kind : (n : ℕ) (kind : Kind) → is_sign_kind n kind ≡ true → kind ≡ k.Sign n
sign_kind n (k.Sign own) h = ap k.Sign (eqb-true own n h)
sign_kind n _ h = cc

-- a test that holds
pub sign_is : (n : ℕ) (s : Token) → is_sign_of n s ≡ true → IsSign n s
sign_is n s h = sign_kind n (kind_of_token s) h

-- a test that fails
pub sign_is_no : (n : ℕ) (s : Token) → is_sign_of n s ≡ false → IsSign n s → ⊥
sign_is_no n s f h =
    let g : is_sign_of n s ≡ (n == n) = ap (is_sign_kind n) h in
    let e : (n == n) ≡ true = eq-eqb n n refl in
    cc

-- a sign that begins no operand begins no expression
pub sign_no_expr : (b : ℕ) (s : Token) → IsSign b s → (is_negation b || is_inversion b) ≡ false → (b ≡ sign.OPEN_PAREN → ⊥) → IsTrue (begins_expr (kind_of_token s)) → ⊥
sign_no_expr b s h none other e =
    let e' : IsTrue (begins_expr (k.Sign b)) = sym (ap begins_expr h) ∙ e in
    elim (or_cases (is_negation b) (is_inversion b || b == sign.OPEN_PAREN) e') [
      | inl i ↦ let g : IsTrue (is_negation b || is_inversion b) = or_left (is_negation b) (is_inversion b) i in cc
      | inr i ↦ elim (or_cases (is_inversion b) (b == sign.OPEN_PAREN) i) [
        | inl j ↦ let g : IsTrue (is_negation b || is_inversion b) = or_right (is_negation b) (is_inversion b) j in cc
        | inr j ↦ absurd (other (eqb-true b sign.OPEN_PAREN j))
      ]
    ]

not_false : (b : Bool) → (b ≡ false → ⊥) → b ≡ true
not_false true h = refl
not_false false h = absurd (h refl)

-- what begins with a parenthesis and isn't such a one is a cast
pub cast_or_opens : (s : Token) (rest tokens : Tokens) → tokens ≡ s ∷ rest → IsSign sign.OPEN_PAREN s → (Opens tokens → ⊥) → is_cast rest ≡ true
cast_or_opens s rest tokens split h none = not_false (is_cast rest) (λ f. none (record { first = s; rest = rest; split = split; is_open = h; no_cast = f }))

either_no : (a b : Bool) → (a || b) ≡ false → (a ≡ false) × (b ≡ false)
either_no true b h = cc
either_no false b h = (refl, h)

-- the token begins no step
pub no_step : (s : Token) → (is_sign_of sign.DOT s || is_sign_of sign.OPEN_BRACKET s) ≡ false → (IsSign sign.DOT s → ⊥) × (IsSign sign.OPEN_BRACKET s → ⊥)
no_step s h = let p = either_no (is_sign_of sign.DOT s) (is_sign_of sign.OPEN_BRACKET s) h in (sign_is_no sign.DOT s p.0, sign_is_no sign.OPEN_BRACKET s p.1)

-- the token begins a step
pub a_step : (s : Token) → (is_sign_of sign.DOT s || is_sign_of sign.OPEN_BRACKET s) ≡ true → IsStep s
a_step s h = elim (or_cases (is_sign_of sign.DOT s) (is_sign_of sign.OPEN_BRACKET s) h) [ inl i ↦ inl (sign_is sign.DOT s i) | inr i ↦ inr (sign_is sign.OPEN_BRACKET s i) ]
