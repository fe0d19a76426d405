-- Chains of binary signs, and the levels that they make.
use Rattle.std.proofs.Common.{◌≡◌, ℕ, zero, suc, ◌+◌, ◌-◌, ◌<◌, ◌≤◌, max, Bool, true, false, ◌||◌, IsTrue, List, [], ◌∷◌, ◌++◌, length, Option, Some, None, Result, Ok, Err, refl, sym, ap, ◌∙◌, subst, inl, inr, ◌⊎◌, arith}
use Rattle.std.specs.Borrow.{Bor}
use Rattle.jp_ast.specs.declared.token.Place.{Place}
use Rattle.jp_ast.specs.declared.token.Token.{Token}
use Rattle.jp_ast.specs.declared.expr.Expr.{Expr}
use Rattle.jp_ast.specs.declared.sign.TheConstants as sign
use Rattle.jp_grammar.specs.declared.kind.Kind.{Kind}
use Rattle.jp_grammar.specs.declared.kind.Kind.TheVariants as k
use Rattle.jp_grammar.specs.declared.fault.ParseFault.{ParseFault}
use Rattle.jp_grammar.specs.declared.fault.ParseFault.TheVariants.{TooDeep}
use Rattle.jp_grammar.specs.Kinds.{Is, IsSign, IsName, Tokens, place_of, kind_of_token}
use Rattle.jp_grammar.specs.Trees.{binary_at, instance_at}
use Rattle.jp_grammar.specs.Expressions.{Level, Chain, Unary, strongest, weaker, chain_end, chain_sign, chain_instance, binds, strength}
use Rattle.jp_grammar.specs.Reading.{Ends, Any, Never, Viable, SameHead, Follows, Found, Fails, FailsWithin, Gives, Refused}
use Rattle.jp_grammar.specs.Behind.{ends_level}
use Rattle.jp_grammar.specs.Depth.{depth}
use Rattle.jp_grammar.proofs.Sequence.{Then, found_image}
use Rattle.jp_grammar.proofs.Outcome.{Joint, Same, image_of, gives_then, gives_same, fails_begun, fails_at, deep_at, found_nothing, Placed, found_placed, fails_placed}
use Rattle.jp_grammar.proofs.Excluding.{ends_inside}
use Rattle.jp_grammar.proofs.Facts.{chain_starts, chain_depth, level_solid, ends_weaker_all}
use Rattle.jp_grammar.proofs.Depths.{depth_binary, depth_instance, depth_positive}
use Rattle.jp_grammar.proofs.Samples.{a_number, a_name, a_name_is, level_number, zero_expr}

-- what a function answers that reads an expression
abbrev pub Read : Type 0
Read = Result (Expr × ℕ × Bor Tokens) ParseFault

-- ---- a level is the stronger one and a chain

level_split : {n : ℕ} {xs zs : Tokens} {t : Expr} → Level (suc n) xs t zs → Then (Placed (Level n)) (λ x. Chain x.0 n x.1) xs t zs
level_split {xs = xs} (weaker {ys = ys} {l = l} p c) = ((place_of xs, l), ys, (refl, p), c)

level_join : (n : ℕ) (xs zs : Tokens) (t : Expr) → Then (Placed (Level n)) (λ x. Chain x.0 n x.1) xs t zs → Level (suc n) xs t zs
level_join n xs zs t r = weaker r.2.1 (subst (λ (at : Place). Chain at n r.0.1 r.1 t zs) r.2.0 r.3)

level_same : (n most : ℕ) → Same [] (λ t. t) (Then (Placed (Level n)) (λ x. Chain x.0 n x.1)) (Level (suc n)) (ends_level (suc n)) (λ t. depth t ≤ most) (λ t. depth t ≤ most)
level_same n most = record {
  into = λ xs zs t r. level_join n xs zs t r;
  from = λ xs zs t r e. (t, refl, level_split r);
  up = λ a h. h;
  down = λ a h. h;
}

level_joint : (n most : ℕ) → Joint (Placed (Level n)) (λ x. Chain x.0 n x.1) (ends_level n) (ends_level (suc n)) (λ x. depth x.1 ≤ most) (λ t. depth t ≤ most)
level_joint n most = record {
  starts = λ a ys zs t s e. chain_starts s e;
  down = λ a ys zs t s q. let d = chain_depth s in omega (arith, d);
  close = [];
  follows = λ zs e. ends_weaker_all n zs e;
  closed = λ a zs e. (a.1, chain_end, λ p. p);
}

-- a chain behind what is read
pub level_gives : (n most : ℕ) (xs ys : Tokens) (a : Expr) (r : Read) → Found (Level n) (λ _. ends_level n) xs a ys →
    Gives (Chain (place_of xs) n a) depth (ends_level (suc n)) most ys r → Gives (Level (suc n)) depth (ends_level (suc n)) most xs r
level_gives n most xs ys a r g f = gives_same (level_same n most) xs r (gives_then (level_joint n most) xs ys (place_of xs, a) r (found_placed (level_solid n) g) f)

level_fails_suc : (n most : ℕ) (xs : Tokens) (e : ParseFault) → FailsWithin (Level n) depth (ends_level n) most xs e → FailsWithin (Level (suc n)) depth (ends_level (suc n)) most xs e
level_fails_suc n most xs e f = gives_same (level_same n most) xs (Err e) (fails_begun (level_joint n most) xs e (fails_placed (Level n) (ends_level n) (λ t. depth t ≤ most) xs e f))

-- a fault in a part is one in the whole
pub level_fails : (d n most : ℕ) (xs : Tokens) (e : ParseFault) → FailsWithin (Level n) depth (ends_level n) most xs e → FailsWithin (Level (d + n)) depth (ends_level (d + n)) most xs e
level_fails zero n most xs e f = let same : n ≡ zero + n = omega arith in subst (λ (x : ℕ). FailsWithin (Level x) depth (ends_level x) most xs e) same f
level_fails (suc d) n most xs e f =
    let same : suc (d + n) ≡ suc d + n = omega arith in
    subst (λ (x : ℕ). FailsWithin (Level x) depth (ends_level x) most xs e) same (level_fails_suc (d + n) most xs e (level_fails d n most xs e f))

unary_split : {xs zs : Tokens} {t : Expr} → Level zero xs t zs → Unary xs t zs
unary_split (strongest u) = u

-- a unary is the strongest level
pub unary_same : (most : ℕ) → Same [] (λ t. t) Unary (Level zero) (ends_level zero) (λ t. depth t ≤ most) (λ t. depth t ≤ most)
unary_same most = record {
  into = λ xs zs t r. strongest r;
  from = λ xs zs t r e. (t, refl, unary_split r);
  up = λ a h. h;
  down = λ a h. h;
}

pub level_zero : (xs ys : Tokens) (a : Expr) → Found Unary (λ _. ends_level 0) xs a ys → Found (Level 0) (λ _. ends_level 0) xs a ys
level_zero xs ys a f = found_image (image_of (unary_same 0)) f

pub unary_level_fails : (m most : ℕ) (xs : Tokens) (e : ParseFault) → FailsWithin Unary depth (ends_level 0) most xs e → FailsWithin (Level m) depth (ends_level m) most xs e
unary_level_fails m most xs e f =
    let same : m + 0 ≡ m = omega arith in
    subst (λ (x : ℕ). FailsWithin (Level x) depth (ends_level x) most xs e) same (level_fails m 0 most xs e (gives_same (unary_same most) xs (Err e) f))

-- ---- the signs of a chain

-- the sign of a strength, or `instanceof`
pub joins : (kind : Kind) (n : ℕ) → binds kind ≡ Some n → ((b : ℕ) × (kind ≡ k.Sign b) × (strength b ≡ Some n)) ⊎ ((kind ≡ k.InstanceOf) × (n ≡ 3))
joins (k.Sign b) n h = inl (b, refl, h)
joins k.InstanceOf n h = inr (refl, cc)
joins _ n h = cc

no_follow : (n : ℕ) (s s' : Token) (xs ys : Tokens) → binds (kind_of_token s') ≡ Some n → (binds (kind_of_token s) ≡ Some n → ⊥) → Follows (ends_level (suc n)) (s ∷ xs) (s' ∷ ys) → ⊥
no_follow n s s' xs ys b other (inl e) = ends_inside n (kind_of_token s') b e
no_follow n s s' xs ys b other (inr same) = other (subst (λ (x : Token). binds (kind_of_token x) ≡ Some n) same b)

module _ (at : Place) (n : ℕ) (l : Expr) (most : ℕ) (s : Token) (xs : Tokens) where
  stop_only : (ys zs : Tokens) (u : Expr) → (binds (kind_of_token s) ≡ Some n → ⊥) → Follows (ends_level (suc n)) (s ∷ xs) ys → Chain at n l ys u zs → (u ≡ l) × (zs ≡ ys)
  stop_only ys zs u other f chain_end = (refl, refl)
  stop_only ys zs u other f (chain_sign {s = s'} {xs = xs'} h i p c) = absurd (no_follow n s s' xs xs' (ap binds h ∙ i) other f)
  stop_only ys zs u other f (chain_instance {s = s'} {c = c'} {xs = xs'} h i m c) = absurd (no_follow n s s' xs (c' ∷ xs') (ap binds h ∙ ap Some (sym i)) other f)

  pub chain_stops : (binds (kind_of_token s) ≡ Some n → ⊥) → Found (Chain at n l) (λ _. ends_level (suc n)) (s ∷ xs) l (s ∷ xs)
  chain_stops other = found_nothing (Chain at n l) (ends_level (suc n)) (s ∷ xs) l (λ ys. chain_end) (λ ys zs u f r e. stop_only ys zs u other f r)

  never_full : (more zs : Tokens) (t : Expr) → binds (kind_of_token s) ≡ Some n → depth l ≡ most → Chain at n l (s ∷ more) t zs → Ends (ends_level (suc n)) zs → depth t ≤ most → ⊥
  never_full more zs t b full chain_end e q = ends_inside n (kind_of_token s) b e
  never_full more zs t b full (chain_sign {b = b'} {r = r} h i p c) e q = let d = depth_binary at b' l r in let d' = chain_depth c in absurd (omega (arith, d, d'))
  never_full more zs t b full (chain_instance {class = class} h i m c) e q = let d = depth_instance at l class in let d' = chain_depth c in absurd (omega (arith, d, d'))

  deeper_full : binds (kind_of_token s) ≡ Some n → Viable (Chain at n l) (λ _. ends_level (suc n)) (ends_level (suc n)) Any (s ∷ [])
  deeper_full b zs e = elim (joins (kind_of_token s) n b) [
    | inl j ↦ (a_number ∷ [], binary_at at j.0 l zero_expr, chain_sign j.1 j.2 (level_number n zs) chain_end, e, tt)
    | inr j ↦ (a_name ∷ [], instance_at at l (97 ∷ []), chain_instance j.0 j.1 a_name_is chain_end, e, tt)
  ]

  pub chain_full : binds (kind_of_token s) ≡ Some n → depth l ≡ most → FailsWithin (Chain at n l) depth (ends_level (suc n)) most (s ∷ xs) (TooDeep s.place)
  chain_full b full = deep_at (Chain at n l) (ends_level (suc n)) (λ t. depth t ≤ most) [] s xs
      (λ zs e. ([], l, chain_end, e, omega arith))
      (λ more zs t r e q. never_full more zs t b full r e q)
      (deeper_full b)

  -- a sign, its right side, and the rest of the chain
  sign_from : (b : ℕ) (ys zs : Tokens) (t : Expr) → IsSign b s → strength b ≡ Some n → Chain at n l (s ∷ ys) t zs → Ends (ends_level (suc n)) zs →
      Then (Level n) (λ r. Chain at n (binary_at at b l r)) ys t zs
  sign_from b ys zs t h i chain_end e = absurd (ends_inside n (kind_of_token s) (ap binds h ∙ i) e)
  sign_from b ys zs t h i (chain_sign {b = b'} {ys = ws} {r = r} h' i' p c) e =
      let same : b' ≡ b = cc in
      (r, ws, p, subst (λ (x : ℕ). Chain at n (binary_at at x l r) ws t zs) same c)
  sign_from b ys zs t h i (chain_instance h' i' m c) e = cc

  sign_same : (b : ℕ) → IsSign b s → strength b ≡ Some n →
      Same (s ∷ []) (λ t. t) (Then (Level n) (λ r. Chain at n (binary_at at b l r))) (Chain at n l) (ends_level (suc n)) (λ t. depth t ≤ most) (λ t. depth t ≤ most)
  sign_same b h i = record {
    into = λ ys zs t r. chain_sign h i r.2 r.3;
    from = λ ys zs t r e. (t, refl, sign_from b ys zs t h i r e);
    up = λ a q. q;
    down = λ a q. q;
  }

  sign_joint : (b : ℕ) → depth l + 1 ≤ most →
      Joint (Level n) (λ r. Chain at n (binary_at at b l r)) (ends_level n) (ends_level (suc n)) (λ t. depth t ≤ most - 1) (λ t. depth t ≤ most)
  sign_joint b room = record {
    starts = λ a ys zs t r e. chain_starts r e;
    down = λ a ys zs t r q. let d = depth_binary at b l a in let d' = chain_depth r in omega (arith, d, d');
    close = [];
    follows = λ zs e. ends_weaker_all n zs e;
    closed = λ a zs e. (binary_at at b l a, chain_end, λ p. let d = depth_binary at b l a in omega (arith, d));
  }

  -- the right side fails
  pub sign_fails : (b : ℕ) (e : ParseFault) → IsSign b s → strength b ≡ Some n → depth l + 1 ≤ most →
      FailsWithin (Level n) depth (ends_level n) (most - 1) xs e → FailsWithin (Chain at n l) depth (ends_level (suc n)) most (s ∷ xs) e
  sign_fails b e h i room f = gives_same (sign_same b h i) xs (Err e) (fails_begun (sign_joint b room) xs e f)

  -- the rest of the chain behind the right side
  pub sign_gives : (b : ℕ) (ys : Tokens) (a : Expr) (r : Read) → IsSign b s → strength b ≡ Some n → depth l + 1 ≤ most → Found (Level n) (λ _. ends_level n) xs a ys →
      Gives (Chain at n (binary_at at b l a)) depth (ends_level (suc n)) most ys r → Gives (Chain at n l) depth (ends_level (suc n)) most (s ∷ xs) r
  sign_gives b ys a r h i room g f = gives_same (sign_same b h i) xs r (gives_then (sign_joint b room) xs ys a r g f)

-- ---- `instanceof`

module _ (at : Place) (n : ℕ) (l : Expr) (most : ℕ) (s c : Token) (xs : Tokens) where
  instance_from : (class : List ℕ) (ys zs : Tokens) (t : Expr) → Is k.InstanceOf s → n ≡ 3 → IsName class c → Chain at n l (s ∷ c ∷ ys) t zs → Ends (ends_level (suc n)) zs → Chain at n (instance_at at l class) ys t zs
  instance_from class ys zs t h i m chain_end e = absurd (ends_inside n (kind_of_token s) (ap binds h ∙ ap Some (sym i)) e)
  instance_from class ys zs t h i m (chain_sign h' i' p c') e = cc
  instance_from class ys zs t h i m (chain_instance {class = class'} h' i' m' c') e =
      let same : class' ≡ class = cc in
      subst (λ (x : List ℕ). Chain at n (instance_at at l x) ys t zs) same c'

  instance_same : (class : List ℕ) → Is k.InstanceOf s → n ≡ 3 → IsName class c →
      Same (s ∷ c ∷ []) (λ t. t) (Chain at n (instance_at at l class)) (Chain at n l) (ends_level (suc n)) (λ t. depth t ≤ most) (λ t. depth t ≤ most)
  instance_same class h i m = record {
    into = λ ys zs t r. chain_instance h i m r;
    from = λ ys zs t r e. (t, refl, instance_from class ys zs t h i m r e);
    up = λ a q. q;
    down = λ a q. q;
  }

  -- the rest of the chain behind the class
  pub instance_gives : (class : List ℕ) (r : Read) → Is k.InstanceOf s → n ≡ 3 → IsName class c →
      Gives (Chain at n (instance_at at l class)) depth (ends_level (suc n)) most xs r → Gives (Chain at n l) depth (ends_level (suc n)) most (s ∷ c ∷ xs) r
  instance_gives class r h i m f = gives_same (instance_same class h i m) xs r f

  instance_never : (more zs : Tokens) (t : Expr) → Is k.InstanceOf s → n ≡ 3 → (kind_of_token c ≡ k.Name → ⊥) → Chain at n l (s ∷ c ∷ more) t zs → Ends (ends_level (suc n)) zs → ⊥
  instance_never more zs t h i other chain_end e = ends_inside n (kind_of_token s) (ap binds h ∙ ap Some (sym i)) e
  instance_never more zs t h i other (chain_sign h' i' p c') e = cc
  instance_never more zs t h i other (chain_instance h' i' m' c') e = other m'.1

  -- no class stands there
  pub instance_wrong : (e : ParseFault) → Is k.InstanceOf s → n ≡ 3 → depth l + 1 ≤ most → (kind_of_token c ≡ k.Name → ⊥) → Refused c e →
      FailsWithin (Chain at n l) depth (ends_level (suc n)) most (s ∷ c ∷ xs) e
  instance_wrong e h i room other r = fails_at (Chain at n l) (ends_level (suc n)) (λ t. depth t ≤ most) (s ∷ []) c xs e r
      (λ zs e'. (a_name ∷ [], instance_at at l (97 ∷ []), chain_instance h i a_name_is chain_end, e', let d = depth_instance at l (97 ∷ []) in omega (arith, d)))
      (λ more zs t d e' q. instance_never more zs t h i other d e')
