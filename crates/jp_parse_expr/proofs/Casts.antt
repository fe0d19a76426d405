-- Casts.
use Rattle.std.proofs.Common.{◌≡◌, ℕ, zero, suc, ◌+◌, ◌-◌, ◌<◌, ◌≤◌, Bool, true, false, ◌&&◌, IsTrue, List, [], ◌∷◌, ◌++◌, length, Option, Some, None, Result, Ok, Err, refl, sym, ap, ◌∙◌, subst, inl, inr, ◌⊎◌, arith}
use Rattle.std.specs.Borrow.{Bor}
use Rattle.jp_ast.specs.declared.token.Place.{Place}
use Rattle.jp_ast.specs.declared.token.Token.{Token}
use Rattle.jp_ast.specs.declared.expr.Expr.{Expr}
use Rattle.jp_ast.specs.declared.sign.TheConstants as sign
use Rattle.jp_grammar.specs.declared.kind.Kind.{Kind}
use Rattle.jp_grammar.specs.declared.kind.Kind.TheVariants as k
use Rattle.jp_grammar.specs.declared.fault.ParseFault.{ParseFault}
use Rattle.jp_grammar.specs.declared.fault.ParseFault.TheVariants.{TooDeep}
use Rattle.jp_grammar.specs.Kinds.{Is, IsSign, IsName, Tokens, nowhere, kind_of_token, kind_of_lexeme}
use Rattle.jp_grammar.specs.Trees.{named_at, cast_at}
use Rattle.jp_grammar.specs.Expressions.{Unary, Plain, Postfix, Primary, NewArray, Closed, negation, unary_plain, inversion, cast, plain_postfix, postfix_array, new_array, number, text, truth, falsehood, nothing, receiver, parenthesis, name, uncalled, called, super_call, new_object, postfix, closed, steps_end, Steps, is_inversion, is_negation}
use Rattle.jp_grammar.specs.Reading.{Reads, Ends, Any, Never, Viable, Found, Fault, Fails, FailsWithin, Gives, Begins}
use Rattle.jp_grammar.specs.Behind.{begins_plain, ends_level, ends_primary, primary_kind}
use Rattle.jp_grammar.specs.Depth.{depth}
use Rattle.jp_grammar.proofs.Sequence.{found_image, fails_image}
use Rattle.jp_grammar.proofs.Choice.{Choice, found_choice, fails_choice}
use Rattle.jp_grammar.proofs.Outcome.{Same, image_of, deep_at}
use Rattle.jp_grammar.proofs.Facts.{plain_shorter, unary_solid, steps_starts}
use Rattle.jp_grammar.proofs.Excluding.{plain_primary, level_primary, negates_plain}
use Rattle.jp_grammar.proofs.Depths.{depth_cast, depth_number, depth_var, depth_positive}
use Rattle.jp_grammar.proofs.Samples.{a_number, zero_expr}
use Rattle.jp_grammar.proofs.Begun.{plain_begun}
use Rattle.jp_parse_expr.proofs.NameAlone.{alone_expression}
use Rattle.jp_parse_expr.proofs.Narrow.{Narrow, found_narrow, fails_narrow}
use Rattle.jp_parse_expr.specs.Parts.{Read}
use Rattle.jp_parse_expr.proofs.Operands.{paren_name, paren_negation, paren_inversion, closed_from}

-- ---- on what begins a plain, an operand is a plain

no_negation : (y : Token) (b : ℕ) → IsTrue (begins_plain (kind_of_token y)) → IsSign b y → IsTrue (is_negation b) → ⊥
no_negation y b h i e =
    let h' : IsTrue (begins_plain (k.Sign b)) = sym (ap begins_plain i) ∙ h in
    negates_plain (k.Sign b) e h'

plain_into : (y : Token) (xs zs : Tokens) (t : Expr) → IsTrue (begins_plain (kind_of_token y)) → Unary (y ∷ xs) t zs → Plain (y ∷ xs) t zs
plain_into y xs zs t h (negation {b = b} i e u) = absurd (no_negation y b h i e)
plain_into y xs zs t h (unary_plain p) = p

plain_narrow : (y : Token) → IsTrue (begins_plain (kind_of_token y)) → Narrow y Unary Plain (ends_level 0)
plain_narrow y h = record {
  into = λ xs zs t r. plain_into y xs zs t h r;
  from = λ xs zs t r e. unary_plain r;
  solid = unary_solid;
}

plain_none : (most : ℕ) → 1 ≤ most → Viable Plain (λ _. ends_level 0) (ends_level 0) (λ t. depth t ≤ most) []
plain_none most room = λ zs e. (a_number ∷ [], zero_expr, plain_postfix (postfix (number refl) steps_end), e, let d = depth_number nowhere 0 false in omega (arith, d))

-- ---- a cast behind its parentheses

module _ (most : ℕ) (s c p y : Token) (class : List ℕ) (h : IsSign sign.OPEN_PAREN s) (n : IsName class c) (q : IsSign sign.CLOSE_PAREN p) (b : IsTrue (begins_plain (kind_of_token y))) where
  -- a cast of what is read
  abbrev Value : Reads Expr
  Value xs t zs = (a : Expr) × (t ≡ cast_at s.place class a) × Plain xs a zs

  -- the operand behind the parentheses
  abbrev Behind : Reads Expr
  Behind xs t zs = Unary (s ∷ c ∷ p ∷ xs) t zs

  value_same : (P Q : Expr → Type 0) → ((t : Expr) → P t → Q (cast_at s.place class t)) → ((t : Expr) → Q (cast_at s.place class t) → P t) →
      Same [] (cast_at s.place class) Plain Value (ends_level 0) P Q
  value_same P Q up down = record {
    into = λ xs zs a r. (a, refl, r);
    from = λ xs zs t r e. r;
    up = up;
    down = down;
  }

  behind_closed : (xs ws : Tokens) (t : Expr) → Closed (c ∷ p ∷ y ∷ xs) t ws → ws ≡ y ∷ xs
  behind_closed xs ws t (closed {p = p'} e i) = let g : p' ∷ ws ≡ p ∷ y ∷ xs = alone_expression c p (y ∷ xs) n.1 q (p' ∷ ws) t e in cc

  no_paren : (xs ws zs : Tokens) (l t : Expr) (at : Place) → Primary (s ∷ c ∷ p ∷ y ∷ xs) l ws → Steps at l ws t zs → Ends (ends_level 0) zs → ⊥
  no_paren xs ws zs l t at r d e =
      let same : ws ≡ y ∷ xs = behind_closed xs ws l (closed_from s (c ∷ p ∷ y ∷ xs) ws l h r) in
      let f : IsTrue (primary_kind (kind_of_token y)) = subst (λ (x : Tokens). Ends ends_primary x) same (steps_starts d e) in
      plain_primary (kind_of_token y) b f

  no_postfix : (xs zs : Tokens) (t : Expr) → Postfix (s ∷ c ∷ p ∷ y ∷ xs) t zs → Ends (ends_level 0) zs → ⊥
  no_postfix xs zs t (postfix {ys = ws} {l = l} r d) e = no_paren xs ws zs l t s.place r d e
  no_postfix xs zs t (postfix_array (new_array i n' o' b') m d) e = cc

  value_from : (xs zs : Tokens) (t : Expr) → Behind (y ∷ xs) t zs → Ends (ends_level 0) zs → Value (y ∷ xs) t zs
  value_from xs zs t (negation {b = b'} i e' u) e = absurd (paren_negation b' s h i e')
  value_from xs zs t (unary_plain (inversion {b = b'} i e' u)) e = absurd (paren_inversion b' s h i e')
  value_from xs zs t (unary_plain (cast {t = u} {class = class'} i n' q' r)) e = let same : class' ≡ class = cc in (u, ap (λ w. cast_at s.place w u) same, r)
  value_from xs zs t (unary_plain (plain_postfix r)) e = absurd (no_postfix xs zs t r e)

  value_into : (xs zs : Tokens) (t : Expr) → Value xs t zs → Behind xs t zs
  value_into xs zs t r = subst (λ (x : Expr). Unary (s ∷ c ∷ p ∷ xs) x zs) (sym r.1) (unary_plain (cast h n q r.2))

  value_choice : Choice y Value Behind (λ _. ends_level 0)
  value_choice = record {
    into = value_into;
    from = value_from;
    solid = λ xs t r. let d = plain_shorter r.2 in absurd (omega (arith, d));
  }

  behind_same : (P : Expr → Type 0) → Same (s ∷ c ∷ p ∷ []) (λ t. t) Behind Unary (ends_level 0) P P
  behind_same P = record {
    into = λ xs zs t r. r;
    from = λ xs zs t r e. (t, refl, r);
    up = λ a q. q;
    down = λ a q. q;
  }

  -- the operand behind the cast
  pub cast_found : (xs zs : Tokens) (a : Expr) → Found Unary (λ _. ends_level 0) (y ∷ xs) a zs → Found Unary (λ _. ends_level 0) (s ∷ c ∷ p ∷ y ∷ xs) (cast_at s.place class a) zs
  cast_found xs zs a f = found_image (image_of (behind_same Any)) (found_choice value_choice (found_image (image_of (value_same Any Any (λ t u. tt) (λ t u. tt))) (found_narrow (plain_narrow y b) f)))

  -- the operand behind the cast fails
  pub cast_fails : (xs : Tokens) (e : ParseFault) → 2 ≤ most → FailsWithin Unary depth (ends_level 0) (most - 1) (y ∷ xs) e → FailsWithin Unary depth (ends_level 0) most (s ∷ c ∷ p ∷ y ∷ xs) e
  cast_fails xs e room f =
      let plain = fails_narrow (plain_narrow y b) (ends_level 0) (λ t. depth t ≤ most - 1) xs e (plain_none (most - 1) (omega arith)) f in
      let value = fails_image (image_of (value_same (λ t. depth t ≤ most - 1) (λ t. depth t ≤ most) (λ t u. let d = depth_cast s.place class t in omega (arith, d)) (λ t u. let d = depth_cast s.place class t in omega (arith, d)))) (ends_level 0) (y ∷ xs) e plain in
      let chosen = fails_choice value_choice (ends_level 0) (λ t. depth t ≤ most) xs e value in
      fails_image (image_of (behind_same (λ t. depth t ≤ most))) (ends_level 0) (y ∷ xs) e chosen

  cast_never : (more zs : Tokens) (t : Expr) → most ≡ 1 → Unary (s ∷ c ∷ p ∷ y ∷ more) t zs → Ends (ends_level 0) zs → depth t ≤ most → ⊥
  cast_never more zs t one r e u =
      let v = value_from more zs t r e in
      let d = depth_cast s.place class v.0 in
      let m = depth_positive v.0 in
      let same : depth t ≡ depth (cast_at s.place class v.0) = ap depth v.1 in
      absurd (omega (arith, d, m, same))

  -- there is no room for the operand
  pub cast_full : (xs : Tokens) → most ≡ 1 → FailsWithin Unary depth (ends_level 0) most (s ∷ c ∷ p ∷ y ∷ xs) (TooDeep y.place)
  cast_full xs one = deep_at Unary (ends_level 0) (λ t. depth t ≤ most) (s ∷ c ∷ p ∷ []) y xs
      (λ zs e. ([], named_at c.place None class, unary_plain (plain_postfix (paren_name s c p zs class h n q)), e, let d = depth_var c.place class in omega (arith, d)))
      (λ more zs t r e u. cast_never more zs t one r e u)
      (λ zs e. let g = plain_begun y zs b in (g.0, cast_at s.place class g.1, unary_plain (cast h n q g.2), e, tt))
