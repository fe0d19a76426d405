-- Operands without a sign or a cast in front.
use Rattle.std.proofs.Common.{◌≡◌, ℕ, ◌+◌, ◌≤◌, Bool, true, false, ◌==◌, IsTrue, List, [], ◌∷◌, ◌++◌, Result, Ok, Err, refl, sym, ap, ◌∙◌, subst, arith}
use Rattle.std.specs.Borrow.{Bor}
use Rattle.std.proofs.lemmas.Bool.{eqb-true}
use Rattle.jp_ast.specs.declared.token.Token.{Token}
use Rattle.jp_ast.specs.declared.expr.Expr.{Expr}
use Rattle.jp_ast.specs.declared.sign.TheConstants as sign
use Rattle.jp_grammar.specs.declared.kind.Kind.TheVariants as k
use Rattle.jp_grammar.specs.declared.fault.ParseFault.{ParseFault}
use Rattle.jp_grammar.specs.Kinds.{IsSign, Tokens, nowhere, kind_of_token}
use Rattle.jp_grammar.specs.Expressions.{Expression, Postfix, Steps, Closed, postfix, number, steps_end}
use Rattle.jp_grammar.specs.Reading.{Found, FailsWithin, Gives, Refused, Takes, Lacks}
use Rattle.jp_grammar.specs.Behind.{ends_level, ends_full, ends_primary}
use Rattle.jp_grammar.specs.Depth.{depth}
use Rattle.jp_grammar.proofs.Outcome.{fails_at}
use Rattle.jp_grammar.proofs.Depths.{depth_number}
use Rattle.jp_grammar.proofs.Samples.{a_number, zero_expr}
use Rattle.jp_grammar.proofs.Prefixes.{begins_primary, postfix_primary}
use Rattle.jp_grammar.proofs.Parts.{closed_fails, closed_wrong, closed_found}
use Rattle.jp_parse_expr.specs.Parts.{Read}
use Rattle.jp_parse_expr.proofs.Operands.{paren_gives, paren_no_new, postfix_fails, postfix_gives}

sign_begins : (b : ℕ) (s : Token) (more zs : Tokens) (t : Expr) → IsSign b s → (b ≡ sign.OPEN_PAREN → ⊥) → Postfix (s ∷ more) t zs → ⊥
sign_begins b s more zs t h other r =
    let e : IsTrue (begins_primary (kind_of_token s)) = postfix_primary r in
    other (eqb-true b sign.OPEN_PAREN (sym (ap begins_primary h) ∙ e))

-- a sign that is no parenthesis begins none
pub postfix_wrong : (most b : ℕ) (s : Token) (xs tokens : Tokens) (e : ParseFault) → 1 ≤ most → tokens ≡ s ∷ xs → IsSign b s → (b ≡ sign.OPEN_PAREN → ⊥) → Refused s e → FailsWithin Postfix depth (ends_level 0) most tokens e
postfix_wrong most b s xs tokens e room split h other r =
    subst (λ (x : Tokens). FailsWithin Postfix depth (ends_level 0) most x e) (sym split)
    (fails_at Postfix (ends_level 0) (λ t. depth t ≤ most) [] s xs e r
    (λ zs e'. (a_number ∷ [], zero_expr, postfix (number refl) steps_end, e', let d = depth_number nowhere 0 false in omega (arith, d)))
    (λ more zs t r' e' q. sign_begins b s more zs t h other r'))

module _ (most : ℕ) (s : Token) (xs : Tokens) (h : IsSign sign.OPEN_PAREN s) where
  -- the expression in the parentheses fails
  pub enclosed_fails : (e : ParseFault) → FailsWithin Expression depth ends_full most xs e → FailsWithin Postfix depth (ends_level 0) most (s ∷ xs) e
  enclosed_fails e f = postfix_fails most s xs (paren_no_new s h) e (paren_gives most s xs (Err e) h (closed_fails ends_primary most xs e f))

  -- no parenthesis stands behind the expression
  pub enclosed_wrong : (t : Expr) (ys : Tokens) (e : ParseFault) → Found Expression (λ _. ends_full) xs t ys → depth t ≤ most → Lacks sign.CLOSE_PAREN ys e → FailsWithin Postfix depth (ends_level 0) most (s ∷ xs) e
  enclosed_wrong t ys e g small l = postfix_fails most s xs (paren_no_new s h) e (paren_gives most s xs (Err e) h (closed_wrong ends_primary most xs t ys e g small l))

  -- the parentheses, and the steps behind them
  pub enclosed_gives : (t : Expr) (d : ℕ) (ys : Tokens) (zs : Bor Tokens) (r : Read) → Found Expression (λ _. ends_full) xs t ys → d ≡ depth t → d ≤ most → Takes sign.CLOSE_PAREN ys zs.now →
      Gives (Steps s.place t) depth (ends_level 0) most zs.now r → Gives Postfix depth (ends_level 0) most (s ∷ xs) r
  enclosed_gives t d ys zs r g deep small k' f =
      postfix_gives most s xs (paren_no_new s h) zs.now t r
      (paren_gives most s xs (Ok (t, d, zs)) h (closed_found ends_primary most xs t ys zs.now g k', deep, small)).0 f
