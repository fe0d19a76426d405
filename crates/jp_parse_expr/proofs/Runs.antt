-- Runs of parentheses.
use Rattle.std.proofs.Common.{◌≡◌, ℕ, zero, suc, ◌+◌, ◌-◌, ◌<◌, ◌≤◌, Bool, true, false, List, [], ◌∷◌, ◌++◌, length, drop, Option, Some, None, Result, Ok, Err, refl, sym, ap, ◌∙◌, subst, add-one, arith}
use borrow.Author.Count.{below_more}
use Rattle.std.specs.Borrow.{Bor}
use Rattle.jp_ast.specs.declared.token.Place.{Place}
use Rattle.jp_ast.specs.declared.token.Token.{Token}
use Rattle.jp_ast.specs.declared.expr.Expr.{Expr}
use Rattle.jp_grammar.specs.declared.fault.ParseFault.{ParseFault}
use Rattle.jp_grammar.specs.Kinds.{Tokens, place_of}
use Rattle.jp_grammar.specs.Expressions.{Unary, Postfix, Primary, Steps, Closed}
use Rattle.jp_grammar.specs.Reading.{IsText, FailsWithin, Gives}
use Rattle.jp_grammar.specs.Behind.{ends_level, ends_primary}
use Rattle.jp_grammar.specs.Depth.{depth}
use Rattle.jp_grammar.proofs.Chains.{unary_level_fails}
use Rattle.jp_grammar.proofs.Parts.{expression_fails, closed_fails}
use Rattle.jp_parse_expr.specs.Ahead.{Opens}
use Rattle.jp_parse_expr.specs.Parts.{Read}
use Rattle.jp_parse_expr.proofs.Operands.{paren_gives, paren_no_new, postfix_fails, postfix_gives, uncast_gives}

-- ---- one parenthesis

module _ (most : ℕ) (room : 1 ≤ most) (xs : Tokens) (o : Opens xs) where
  moved : (r : Read) → Gives Unary depth (ends_level 0) most (o.first ∷ o.rest) r → Gives Unary depth (ends_level 0) most xs r
  moved r f = subst (λ (x : Tokens). Gives Unary depth (ends_level 0) most x r) (sym o.split) f

  from_postfix : (r : Read) → Gives Postfix depth (ends_level 0) most (o.first ∷ o.rest) r → Gives Unary depth (ends_level 0) most xs r
  from_postfix r f = moved r (uncast_gives most o.first o.rest r room o.is_open o.no_cast f)

  open_fails : (e : ParseFault) → FailsWithin Closed depth ends_primary most o.rest e → FailsWithin Unary depth (ends_level 0) most xs e
  open_fails e f = from_postfix (Err e) (postfix_fails most o.first o.rest (paren_no_new o.first o.is_open) e (paren_gives most o.first o.rest (Err e) o.is_open f))

  -- x is what was read in the parentheses
  open_gives : (x : Expr × ℕ × Bor Tokens) (r : Read) → Gives Closed depth ends_primary most o.rest (Ok x) → Gives (Steps o.first.place x.0) depth (ends_level 0) most x.2.now r → Gives Unary depth (ends_level 0) most xs r
  open_gives x r g f = from_postfix r (postfix_gives most o.first o.rest (paren_no_new o.first o.is_open) x.2.now x.0 r (paren_gives most o.first o.rest (Ok x) o.is_open g).0 f)

-- ---- a run of them

next_suc : (i : ℕ) (xs ys : Tokens) (s : Token) → drop i xs ≡ s ∷ ys → drop (suc i) xs ≡ ys
next_suc zero [] ys s h = cc
next_suc zero (x ∷ xs) ys s h = cc
next_suc (suc i) [] ys s h = cc
next_suc (suc i) (x ∷ xs) ys s h = next_suc i xs ys s h

pub drop_next : (i : ℕ) (xs ys : Tokens) (s : Token) → drop i xs ≡ s ∷ ys → drop (i + 1) xs ≡ ys
drop_next i xs ys s h = rw add-one (next_suc i xs ys s h)

pub open_more : (n : ℕ) (xs : Tokens) → ((i : ℕ) → i < n → Opens (drop i xs)) → Opens (drop n xs) → (i : ℕ) → i < n + 1 → Opens (drop i xs)
open_more n xs below here = below_more (λ i. Opens (drop i xs)) n below here

pub text_drop : (i : ℕ) (xs : Tokens) → IsText xs → i < length xs → IsText (drop i xs)
text_drop zero xs text h = text
text_drop (suc i) [] text h = absurd text
text_drop (suc i) (x ∷ []) text h = absurd (omega arith)
text_drop (suc i) (x ∷ x' ∷ xs) text h = text_drop i (x' ∷ xs) text.1 (omega arith)

module _ (most : ℕ) (room : 1 ≤ most) (tokens : Tokens) where
  next_rest : (i : ℕ) (o : Opens (drop i tokens)) → drop (suc i) tokens ≡ o.rest
  next_rest i o = next_suc i tokens o.rest o.first o.split

  closing_fails : (i : ℕ) (e : ParseFault) → Opens (drop i tokens) → FailsWithin Closed depth ends_primary most (drop (suc i) tokens) e → FailsWithin Unary depth (ends_level 0) most (drop i tokens) e
  closing_fails i e o f = open_fails most room (drop i tokens) o e (subst (λ (x : Tokens). FailsWithin Closed depth ends_primary most x e) (next_rest i o) f)

  closing_gives : (i : ℕ) (x : Expr × ℕ × Bor Tokens) (r : Read) (o : Opens (drop i tokens)) → Gives Closed depth ends_primary most (drop (suc i) tokens) (Ok x) →
      Gives (Steps (place_of (drop i tokens)) x.0) depth (ends_level 0) most x.2.now r → Gives Unary depth (ends_level 0) most (drop i tokens) r
  closing_gives i x r o g f =
      open_gives most room (drop i tokens) o x r (subst (λ (y : Tokens). Gives Closed depth ends_primary most y (Ok x)) (next_rest i o) g)
      (subst (λ (at : Place). Gives (Steps at x.0) depth (ends_level 0) most x.2.now r) (ap place_of o.split) f)

  -- a fault behind some open parentheses is one of the whole
  pub run_fails : (i : ℕ) (e : ParseFault) → ((j : ℕ) → j < i → Opens (drop j tokens)) → FailsWithin Unary depth (ends_level 0) most (drop i tokens) e → FailsWithin Unary depth (ends_level 0) most tokens e
  run_fails zero e opens f = f
  run_fails (suc i) e opens f =
      run_fails i e (λ j h. opens j (omega arith)) (closing_fails i e (opens i (omega arith)) (closed_fails ends_primary most (drop (suc i) tokens) e (expression_fails most (drop (suc i) tokens) e (unary_level_fails 10 most (drop (suc i) tokens) e f))))

  pub paren_run_fails : (i : ℕ) (e : ParseFault) → 0 < i → ((j : ℕ) → j < i → Opens (drop j tokens)) → FailsWithin Closed depth ends_primary most (drop i tokens) e → FailsWithin Unary depth (ends_level 0) most tokens e
  paren_run_fails zero e some opens f = absurd (omega arith)
  paren_run_fails (suc i) e some opens f = run_fails i e (λ j h. opens j (omega arith)) (closing_fails i e (opens i (omega arith)) f)

  -- the closing of the i-th parenthesis, and the steps behind it
  pub paren_run_gives : (i : ℕ) (at : Place) (x : Expr × ℕ × Bor Tokens) (r : Read) → 0 < i → ((j : ℕ) → j < i → Opens (drop j tokens)) → at ≡ place_of (drop (i - 1) tokens) →
      Gives Closed depth ends_primary most (drop i tokens) (Ok x) → Gives (Steps at x.0) depth (ends_level 0) most x.2.now r → Gives Unary depth (ends_level 0) most (drop (i - 1) tokens) r
  paren_run_gives i at x r some opens place g f =
      let same : suc (i - 1) ≡ i = omega arith in
      closing_gives (i - 1) x r (opens (i - 1) (omega arith)) (subst (λ (n : ℕ). Gives Closed depth ends_primary most (drop n tokens) (Ok x)) (sym same) g)
      (subst (λ (p : Place). Gives (Steps p x.0) depth (ends_level 0) most x.2.now r) place f)
