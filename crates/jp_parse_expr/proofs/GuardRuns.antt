-- Runs of parentheses around guards.
use Rattle.std.proofs.Common.{◌≡◌, ℕ, zero, suc, ◌+◌, ◌-◌, ◌<◌, ◌≤◌, List, [], ◌∷◌, length, drop, Result, Ok, Err, refl, sym, ap, ◌∙◌, subst, add-one, arith}
use borrow.Author.Count.{below_more}
use Rattle.std.specs.Borrow.{Bor}
use Rattle.jp_ast.specs.declared.token.Token.{Token}
use Rattle.jp_ast.specs.declared.guard.GuardExpr.{GuardExpr}
use Rattle.jp_ast.specs.declared.sign.TheConstants as sign
use Rattle.jp_grammar.specs.declared.fault.ParseFault.{ParseFault}
use Rattle.jp_grammar.specs.Kinds.{IsSign, Tokens}
use Rattle.jp_grammar.specs.Guards.{Level, Gun, Closed}
use Rattle.jp_grammar.specs.Reading.{Found, FailsWithin, Gives, Takes, Lacks}
use Rattle.jp_grammar.specs.Depth.{guard_depth}
use Rattle.jp_parse_expr.specs.BehindGuards.{ends_join}
use Rattle.jp_parse_expr.specs.GuardParts.{ReadGuard, OpensGuard}
use Rattle.jp_parse_expr.proofs.Runs.{drop_next}
use Rattle.jp_parse_expr.proofs.GuardLevels.{gun_level_fails, closed_fails, closed_wrong, closed_found, paren_gives}

pub open_more : (n : ℕ) (xs : Tokens) → ((i : ℕ) → i < n → OpensGuard (drop i xs)) → OpensGuard (drop n xs) → (i : ℕ) → i < n + 1 → OpensGuard (drop i xs)
open_more n xs below here = below_more (λ i. OpensGuard (drop i xs)) n below here

module _ (most : ℕ) (tokens : Tokens) where
  opening_gives : (i : ℕ) (r : ReadGuard) → OpensGuard (drop i tokens) → Gives Closed guard_depth (ends_join 0) most (drop (suc i) tokens) r → Gives Gun guard_depth (ends_join 0) most (drop i tokens) r
  opening_gives i r o f =
      let next : drop (suc i) tokens ≡ o.rest = rw add-one at (drop_next i tokens o.rest o.first o.split) in
      subst (λ (x : Tokens). Gives Gun guard_depth (ends_join 0) most x r) (sym o.split)
      (paren_gives most o.first o.rest r o.is_open (subst (λ (x : Tokens). Gives Closed guard_depth (ends_join 0) most x r) next f))

  -- a fault behind some open parentheses is one of the whole
  pub run_fails : (i : ℕ) (e : ParseFault) → ((j : ℕ) → j < i → OpensGuard (drop j tokens)) → FailsWithin Gun guard_depth (ends_join 0) most (drop i tokens) e → FailsWithin Gun guard_depth (ends_join 0) most tokens e
  run_fails zero e opens f = f
  run_fails (suc i) e opens f =
      run_fails i e (λ j h. opens j (omega arith)) (opening_gives i (Err e) (opens i (omega arith)) (closed_fails most (drop (suc i) tokens) e (gun_level_fails 2 most (drop (suc i) tokens) e f)))

  closed_run : (i : ℕ) (e : ParseFault) → 0 < i → ((j : ℕ) → j < i → OpensGuard (drop j tokens)) → FailsWithin Closed guard_depth (ends_join 0) most (drop i tokens) e → FailsWithin Gun guard_depth (ends_join 0) most tokens e
  closed_run zero e some opens f = absurd (omega arith)
  closed_run (suc i) e some opens f = run_fails i e (λ j h. opens j (omega arith)) (opening_gives i (Err e) (opens i (omega arith)) f)

  module _ (i : ℕ) (some : 0 < i) (opens : (j : ℕ) → j < i → OpensGuard (drop j tokens)) where
    -- what stands in the parentheses fails
    pub inner_fails : (e : ParseFault) → FailsWithin (Level 2) guard_depth (ends_join 2) most (drop i tokens) e → FailsWithin Gun guard_depth (ends_join 0) most tokens e
    inner_fails e f = closed_run i e some opens (closed_fails most (drop i tokens) e f)

    -- no `)` stands there
    pub closing_wrong : (t : GuardExpr) (ys : Tokens) (e : ParseFault) → Found (Level 2) (λ _. ends_join 2) (drop i tokens) t ys → guard_depth t ≤ most → Lacks sign.CLOSE_PAREN ys e → FailsWithin Gun guard_depth (ends_join 0) most tokens e
    closing_wrong t ys e g small h = closed_run i e some opens (closed_wrong most (drop i tokens) t ys e g small h)

    -- the parenthesis
    pub outer_found : (t : GuardExpr) (d : ℕ) (ys zs : Bor Tokens) → Found (Level 2) (λ _. ends_join 2) (drop i tokens) t ys.now → d ≡ guard_depth t → d ≤ most → Takes sign.CLOSE_PAREN ys.now zs.now → Found Gun (λ _. ends_join 0) (drop (i - 1) tokens) t zs.now
    outer_found t d ys zs g deep small h =
        let same : suc (i - 1) ≡ i = omega arith in
        (opening_gives (i - 1) (Ok (t, d, zs)) (opens (i - 1) (omega arith)) (subst (λ (n : ℕ). Gives Closed guard_depth (ends_join 0) most (drop n tokens) (Ok (t, d, zs))) (sym same) (closed_found most (drop i tokens) t ys.now zs.now g h, deep, small))).0
