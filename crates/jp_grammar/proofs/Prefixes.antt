-- Operands with a sign in front.
use Rattle.std.proofs.Common.{◌≡◌, ℕ, zero, suc, ◌+◌, ◌-◌, ◌<◌, ◌≤◌, max, Bool, true, false, ◌||◌, ◌==◌, IsTrue, List, [], ◌∷◌, ◌++◌, Option, Some, None, Result, Ok, Err, refl, sym, ap, ◌∙◌, subst, inl, inr, ◌⊎◌, arith}
use Rattle.jp_ast.specs.declared.token.Place.{Place}
use Rattle.jp_ast.specs.declared.token.Token.{Token}
use Rattle.jp_ast.specs.declared.expr.Expr.{Expr}
use Rattle.jp_ast.specs.declared.sign.TheConstants as sign
use Rattle.jp_grammar.specs.declared.kind.Kind.{Kind}
use Rattle.jp_grammar.specs.declared.kind.Kind.TheVariants as k
use Rattle.jp_grammar.specs.declared.fault.ParseFault.{ParseFault}
use Rattle.jp_grammar.specs.declared.fault.ParseFault.TheVariants.{TooDeep}
use Rattle.jp_grammar.specs.Kinds.{Is, IsSign, IsName, Tokens, nowhere, kind_of_token, kind_of_lexeme}
use Rattle.jp_grammar.specs.Trees.{unary_at}
use Rattle.jp_grammar.specs.Expressions.{Unary, Plain, Postfix, Primary, Named, NewArray, negation, unary_plain, inversion, cast, plain_postfix, postfix, postfix_array, number, text, truth, falsehood, nothing, receiver, parenthesis, name, uncalled, called, super_call, new_object, new_array, is_negation, is_inversion}
use Rattle.jp_grammar.specs.Reading.{Ends, Any, Never, Viable, Found, Fails, FailsWithin, Refused, Begins}
use Rattle.jp_grammar.specs.Behind.{begins_plain, begins_expr, ends_level, among}
use Rattle.jp_grammar.specs.Depth.{depth}
use Rattle.jp_grammar.proofs.Sequence.{found_image, fails_image}
use Rattle.jp_grammar.proofs.Outcome.{Same, image_of, fails_at, deep_at}
use Rattle.jp_grammar.proofs.Excluding.{or_cases, among_misses, negation_among}
use Rattle.jp_grammar.proofs.Facts.{unary_begins}
use Rattle.jp_grammar.proofs.Depths.{depth_unary, depth_number, depth_positive}
use Rattle.jp_grammar.proofs.Samples.{a_number, zero_expr, unary_number}

-- a primary begins with it
abbrev pub begins_primary : Kind → Bool
begins_primary k.Name = true
begins_primary k.Number = true
begins_primary k.Text = true
begins_primary k.True = true
begins_primary k.False = true
begins_primary k.Null = true
begins_primary k.This = true
begins_primary k.Super = true
begins_primary k.New = true
begins_primary (k.Sign b) = b == sign.OPEN_PAREN
begins_primary _ = false

named_primary : {at : Place} {o : Option Expr} {xs zs : Tokens} {t : Expr} → Named at o xs t zs → Begins begins_primary xs
named_primary (uncalled n) = ap begins_primary n.1
named_primary (called n s a) = ap begins_primary n.1

pub primary_primary : {xs zs : Tokens} {t : Expr} → Primary xs t zs → Begins begins_primary xs
primary_primary (number h) = ap (λ l. begins_primary (kind_of_lexeme l)) h
primary_primary (text h) = ap (λ l. begins_primary (kind_of_lexeme l)) h
primary_primary (truth h) = ap begins_primary h
primary_primary (falsehood h) = ap begins_primary h
primary_primary (nothing h) = ap begins_primary h
primary_primary (receiver h) = ap begins_primary h
primary_primary (parenthesis h c) = ap begins_primary h
primary_primary (name n) = named_primary n
primary_primary (super_call h d n o a) = ap begins_primary h
primary_primary (new_object h n o a) = ap begins_primary h

pub postfix_primary : {xs zs : Tokens} {t : Expr} → Postfix xs t zs → Begins begins_primary xs
postfix_primary (postfix p s) = primary_primary p
postfix_primary (postfix_array (new_array h e o b) n s) = ap begins_primary h

-- `-`, `+`, `!` or `~`
abbrev pub is_prefix : ℕ → Bool
is_prefix b = is_negation b || is_inversion b

inversion_among : (b : ℕ) → IsTrue (is_inversion b) → IsTrue (among (sign.NOT ∷ sign.COMPLEMENT ∷ []) b)
inversion_among b h = elim (or_cases (b == sign.NOT) (b == sign.COMPLEMENT) h) [
  | inl e ↦ rw e refl
  | inr e ↦ elim (b == sign.NOT) as (λ x. IsTrue (x || (b == sign.COMPLEMENT || false))) [ true ↦ refl | false ↦ rw e refl ]
]

-- no primary begins with such a sign
prefix_primary : (b : ℕ) → IsTrue (is_prefix b) → IsTrue (b == sign.OPEN_PAREN) → ⊥
prefix_primary b h e = elim (or_cases (is_negation b) (is_inversion b) h) [
  | inl i ↦ among_misses (λ x. x == sign.OPEN_PAREN) b (sign.MINUS ∷ sign.PLUS ∷ []) refl (negation_among b i) e
  | inr i ↦ among_misses (λ x. x == sign.OPEN_PAREN) b (sign.NOT ∷ sign.COMPLEMENT ∷ []) refl (inversion_among b i) e
]

prefix_into : (b : ℕ) (s : Token) (xs zs : Tokens) (t : Expr) → IsSign b s → IsTrue (is_prefix b) → Unary xs t zs → Unary (s ∷ xs) (unary_at s.place b t) zs
prefix_into b s xs zs t h i u = elim (or_cases (is_negation b) (is_inversion b) i) [ inl j ↦ negation h j u | inr j ↦ unary_plain (inversion h j u) ]

prefix_postfix : (b : ℕ) (s : Token) (xs zs : Tokens) (t : Expr) → IsSign b s → IsTrue (is_prefix b) → Postfix (s ∷ xs) t zs → ⊥
prefix_postfix b s xs zs t h i p =
    let e : IsTrue (begins_primary (kind_of_token s)) = postfix_primary p in
    prefix_primary b i (sym (ap begins_primary h) ∙ e)

prefix_from : (b : ℕ) (s : Token) (xs zs : Tokens) (t : Expr) → IsSign b s → IsTrue (is_prefix b) → Unary (s ∷ xs) t zs → (u : Expr) × (t ≡ unary_at s.place b u) × Unary xs u zs
prefix_from b s xs zs t h i (negation {b = b'} {t = u} h' j r) = let same : b' ≡ b = cc in (u, ap (λ x. unary_at s.place x u) same, r)
prefix_from b s xs zs t h i (unary_plain (inversion {b = b'} {t = u} h' j r)) = let same : b' ≡ b = cc in (u, ap (λ x. unary_at s.place x u) same, r)
prefix_from b s xs zs t h i (unary_plain (cast h' n p r)) = absurd (let same : b ≡ sign.OPEN_PAREN = cc in prefix_primary b i (rw same refl))
prefix_from b s xs zs t h i (unary_plain (plain_postfix p)) = absurd (prefix_postfix b s xs zs t h i p)

module _ (b most : ℕ) (s : Token) (xs : Tokens) (h : IsSign b s) (i : IsTrue (is_prefix b)) where
  prefix_same : (P Q : Expr → Type 0) → ((t : Expr) → P t → Q (unary_at s.place b t)) → ((t : Expr) → Q (unary_at s.place b t) → P t) →
      Same (s ∷ []) (unary_at s.place b) Unary Unary (ends_level 0) P Q
  prefix_same P Q up down = record {
    into = λ ys zs t r. prefix_into b s ys zs t h i r;
    from = λ ys zs t r e. prefix_from b s ys zs t h i r;
    up = up;
    down = down;
  }

  -- the operand behind the sign fails
  pub prefix_fails : (e : ParseFault) → 1 ≤ most → FailsWithin Unary depth (ends_level 0) (most - 1) xs e → FailsWithin Unary depth (ends_level 0) most (s ∷ xs) e
  prefix_fails e room f = fails_image (image_of (prefix_same (λ t. depth t ≤ most - 1) (λ t. depth t ≤ most)
      (λ t p. let d = depth_unary s.place b t in omega (arith, d)) (λ t q. let d = depth_unary s.place b t in omega (arith, d)))) (ends_level 0) xs e f

  -- the operand behind the sign
  pub prefix_found : (t : Expr) (zs : Tokens) → Found Unary (λ _. ends_level 0) xs t zs → Found Unary (λ _. ends_level 0) (s ∷ xs) (unary_at s.place b t) zs
  prefix_found t zs f = found_image (image_of (prefix_same Any Any (λ t p. tt) (λ t q. tt))) f

  prefix_never : (more zs : Tokens) (t : Expr) → most ≡ 1 → Unary (s ∷ more) t zs → depth t ≤ most → ⊥
  prefix_never more zs t one r q =
      let p = prefix_from b s more zs t h i r in
      let d = depth_unary s.place b p.0 in
      let n = depth_positive p.0 in
      let same : depth t ≡ depth (unary_at s.place b p.0) = ap depth p.1 in
      absurd (omega (arith, d, n, same))

  -- there is no room for the operand
  pub prefix_full : most ≡ 1 → FailsWithin Unary depth (ends_level 0) most (s ∷ xs) (TooDeep s.place)
  prefix_full one = deep_at Unary (ends_level 0) (λ t. depth t ≤ most) [] s xs
      (λ zs e. (a_number ∷ [], zero_expr, unary_number zs, e, let d = depth_number nowhere 0 false in omega (arith, d)))
      (λ more zs t r e q. prefix_never more zs t one r q)
      (λ zs e. (a_number ∷ [], unary_at s.place b zero_expr, prefix_into b s (a_number ∷ zs) zs zero_expr h i (unary_number zs), e, tt))

unary_never : (s : Token) (more zs : Tokens) (t : Expr) → (IsTrue (begins_expr (kind_of_token s)) → ⊥) → Unary (s ∷ more) t zs → ⊥
unary_never s more zs t other r = other (unary_begins r)

-- no operand stands there
pub unary_wrong : (most : ℕ) (s : Token) (xs : Tokens) (e : ParseFault) → (IsTrue (begins_expr (kind_of_token s)) → ⊥) → Refused s e → 1 ≤ most → FailsWithin Unary depth (ends_level 0) most (s ∷ xs) e
unary_wrong most s xs e other r room = fails_at Unary (ends_level 0) (λ t. depth t ≤ most) [] s xs e r
    (λ zs e'. (a_number ∷ [], zero_expr, unary_number zs, e', let d = depth_number nowhere 0 false in omega (arith, d)))
    (λ more zs t r' e' q. unary_never s more zs t other r')
