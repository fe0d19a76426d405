-- The parts of an expression that are read one behind the other: `?` and its parts, closings, steps and arguments.
use Rattle.std.proofs.Common.{◌≡◌, ℕ, zero, suc, ◌+◌, ◌-◌, ◌<◌, ◌≤◌, max, Bool, true, false, ◌||◌, IsTrue, List, [], ◌∷◌, ◌++◌, length, Option, Some, None, Result, Ok, Err, refl, sym, ap, ◌∙◌, subst, inl, inr, ◌⊎◌, arith}
use Rattle.std.specs.Borrow.{Bor}
use Rattle.jp_ast.specs.declared.token.Place.{Place}
use Rattle.jp_ast.specs.declared.token.Token.{Token}
use Rattle.jp_ast.specs.declared.expr.Expr.{Expr}
use Rattle.jp_ast.specs.declared.sign.TheConstants as sign
use Rattle.jp_grammar.specs.declared.kind.Kind.{Kind}
use Rattle.jp_grammar.specs.declared.kind.Kind.TheVariants as k
use Rattle.jp_grammar.specs.declared.fault.ParseFault.{ParseFault}
use Rattle.jp_grammar.specs.declared.fault.ParseFault.TheVariants.{TooDeep}
use Rattle.jp_grammar.specs.Kinds.{Is, IsSign, IsName, Tokens, nowhere, place_of, kind_of_token}
use Rattle.jp_grammar.specs.Trees.{cond_at, index_at, named_at, called_at}
use Rattle.jp_grammar.specs.Expressions.{Expression, Choices, Alternative, Level, Steps, Named, Closed, Bracketed, Args, MoreArgs, expression, unconditional, conditional, alternative, steps_end, member, element, uncalled, called, closed, bracketed, no_args, some_args, last_arg, next_arg}
use Rattle.jp_grammar.specs.Reading.{Reads, Ends, Any, Never, Viable, SameHead, Follows, Found, Fails, FailsWithin, Gives, Refused, Takes, Lacks, Begins}
use Rattle.jp_grammar.specs.Behind.{begins_expr, stands_behind, ends_kind, ends_level, ends_full, primary_kind, ends_primary}
use Rattle.jp_grammar.specs.Depth.{depth, depth_of_all}
use Rattle.jp_grammar.proofs.Sequence.{Then, found_then, found_image, fails_first, fails_then, fails_image}
use Rattle.jp_grammar.proofs.Choice.{Choice, found_choice, fails_choice}
use Rattle.jp_grammar.proofs.Outcome.{Joint, Same, step_of, image_of, gives_then, gives_same, fails_begun, fails_at, deep_at, found_nothing, Placed, found_placed, fails_placed}
use Rattle.jp_grammar.proofs.Facts.{choices_starts, choices_depth, alternative_depth, steps_starts, steps_depth, named_depth, more_depth, level_solid, full_level, level_primary_all, expression_begins, expression_shorter, more_shorter}
use Rattle.jp_grammar.proofs.Depths.{depth_number, depth_cond, depth_index, depth_field, depth_call, depth_call_of, depth_var, depth_all_push, depth_positive}
use Rattle.jp_grammar.proofs.Samples.{a_number, a_name, a_name_is, a_sign, expression_number, zero_expr}
use Rattle.jp_grammar.proofs.Chains.{Read, unary_level_fails}

-- ---- an expression is the weakest level and its choices

expr_split : {xs zs : Tokens} {t : Expr} → Expression xs t zs → Then (Placed (Level 10)) (λ x. Choices x.0 x.1) xs t zs
expr_split {xs = xs} (expression {ys = ys} {l = l} p c) = ((place_of xs, l), ys, (refl, p), c)

expr_join : (xs zs : Tokens) (t : Expr) → Then (Placed (Level 10)) (λ x. Choices x.0 x.1) xs t zs → Expression xs t zs
expr_join xs zs t r = expression r.2.1 (subst (λ (at : Place). Choices at r.0.1 r.1 t zs) r.2.0 r.3)

expr_same : (most : ℕ) → Same [] (λ t. t) (Then (Placed (Level 10)) (λ x. Choices x.0 x.1)) Expression ends_full (λ t. depth t ≤ most) (λ t. depth t ≤ most)
expr_same most = record {
  into = λ xs zs t r. expr_join xs zs t r;
  from = λ xs zs t r e. (t, refl, expr_split r);
  up = λ a h. h;
  down = λ a h. h;
}

expr_joint : (most : ℕ) → Joint (Placed (Level 10)) (λ x. Choices x.0 x.1) (ends_level 10) ends_full (λ x. depth x.1 ≤ most) (λ t. depth t ≤ most)
expr_joint most = record {
  starts = λ a ys zs t s e. choices_starts s e;
  down = λ a ys zs t s q. let d = choices_depth s in omega (arith, d);
  close = [];
  follows = λ zs e. full_level 10 zs e;
  closed = λ a zs e. (a.1, unconditional, λ p. p);
}

pub expression_gives : (most : ℕ) (xs ys : Tokens) (a : Expr) (r : Read) → Found (Level 10) (λ _. ends_level 10) xs a ys →
    Gives (Choices (place_of xs) a) depth ends_full most ys r → Gives Expression depth ends_full most xs r
expression_gives most xs ys a r g f = gives_same (expr_same most) xs r (gives_then (expr_joint most) xs ys (place_of xs, a) r (found_placed (level_solid 10) g) f)

pub expression_fails : (most : ℕ) (xs : Tokens) (e : ParseFault) → FailsWithin (Level 10) depth (ends_level 10) most xs e → FailsWithin Expression depth ends_full most xs e
expression_fails most xs e f = gives_same (expr_same most) xs (Err e) (fails_begun (expr_joint most) xs e (fails_placed (Level 10) (ends_level 10) (λ t. depth t ≤ most) xs e f))

-- ---- choices

module _ (at : Place) (l : Expr) (most : ℕ) (s : Token) (xs : Tokens) where
  choice_only : (ys zs : Tokens) (u : Expr) → (IsSign sign.QUESTION s → ⊥) → Follows ends_full (s ∷ xs) ys → Choices at l ys u zs → (u ≡ l) × (zs ≡ ys)
  choice_only ys zs u other f unconditional = (refl, refl)
  choice_only ys zs u other (inl e) (conditional h x a) = absurd (let g = ap stands_behind h in cc)
  choice_only ys zs u other (inr same) (conditional h x a) = absurd (other (subst (λ (x : Token). IsSign sign.QUESTION x) same h))

  pub choice_stops : (IsSign sign.QUESTION s → ⊥) → Found (Choices at l) (λ _. ends_full) (s ∷ xs) l (s ∷ xs)
  choice_stops other = found_nothing (Choices at l) ends_full (s ∷ xs) l (λ ys. unconditional) (λ ys zs u f r e. choice_only ys zs u other f r)

  choice_never : (more zs : Tokens) (t : Expr) → IsSign sign.QUESTION s → depth l ≡ most → Choices at l (s ∷ more) t zs → Ends ends_full zs → depth t ≤ most → ⊥
  choice_never more zs t h full unconditional e q = let g = ap stands_behind h in cc
  choice_never more zs t h full (conditional h' x a) e q = let d = alternative_depth a in absurd (omega (arith, d.0))

  pub choice_full : IsSign sign.QUESTION s → depth l ≡ most → FailsWithin (Choices at l) depth ends_full most (s ∷ xs) (TooDeep s.place)
  choice_full h full = deep_at (Choices at l) ends_full (λ t. depth t ≤ most) [] s xs
      (λ zs e. ([], l, unconditional, e, omega arith))
      (λ more zs t r e q. choice_never more zs t h full r e q)
      (λ zs e. (a_number ∷ a_sign sign.COLON ∷ a_number ∷ [], cond_at at l zero_expr zero_expr, conditional h (expression_number _) (alternative refl (expression_number zs)), e, tt))

  choice_from : (ys zs : Tokens) (t : Expr) → IsSign sign.QUESTION s → Choices at l (s ∷ ys) t zs → Ends ends_full zs → Then Expression (λ a. Alternative at l a) ys t zs
  choice_from ys zs t h unconditional e = let g = ap stands_behind h in cc
  choice_from ys zs t h (conditional {ys = ws} {a = a} h' x c) e = (a, ws, x, c)

  choice_same : IsSign sign.QUESTION s → Same (s ∷ []) (λ t. t) (Then Expression (λ a. Alternative at l a)) (Choices at l) ends_full (λ t. depth t ≤ most) (λ t. depth t ≤ most)
  choice_same h = record {
    into = λ ys zs t r. conditional h r.2 r.3;
    from = λ ys zs t r e. (t, refl, choice_from ys zs t h r e);
    up = λ a q. q;
    down = λ a q. q;
  }

  choice_joint : depth l + 1 ≤ most → Joint Expression (λ a. Alternative at l a) ends_full ends_full (λ t. depth t ≤ most - 1) (λ t. depth t ≤ most)
  choice_joint room = record {
    starts = λ a ys zs t r e. alternative_starts r;
    down = λ a ys zs t r q. let d = alternative_depth r in omega (arith, d.1);
    close = a_sign sign.COLON ∷ a_number ∷ [];
    follows = λ zs e. refl;
    closed = λ a zs e. (cond_at at l a zero_expr, alternative refl (expression_number zs), λ p. let d = depth_cond at l a zero_expr in let n = depth_positive l in let z = zero_depth in omega (arith, d, n, z));
  } where
    alternative_starts : {a t : Expr} {ys zs : Tokens} → Alternative at l a ys t zs → Ends ends_full ys
    alternative_starts (alternative h e) = ap stands_behind h

    zero_depth : depth zero_expr ≡ 1
    zero_depth = depth_number nowhere 0 false

  -- the first part fails
  pub choice_fails : (e : ParseFault) → IsSign sign.QUESTION s → depth l + 1 ≤ most → FailsWithin Expression depth ends_full (most - 1) xs e → FailsWithin (Choices at l) depth ends_full most (s ∷ xs) e
  choice_fails e h room f = gives_same (choice_same h) xs (Err e) (fails_begun (choice_joint room) xs e f)

  -- the second part behind the first
  pub choice_gives : (ys : Tokens) (a : Expr) (r : Read) → IsSign sign.QUESTION s → depth l + 1 ≤ most → Found Expression (λ _. ends_full) xs a ys →
      Gives (Alternative at l a) depth ends_full most ys r → Gives (Choices at l) depth ends_full most (s ∷ xs) r
  choice_gives ys a r h room g f = gives_same (choice_same h) xs r (gives_then (choice_joint room) xs ys a r g f)

-- ---- the second part of a choice

module _ (at : Place) (l a : Expr) (most : ℕ) (s : Token) (xs : Tokens) where
  second_from : (ys zs : Tokens) (t : Expr) → Alternative at l a (s ∷ ys) t zs → (b : Expr) × (t ≡ cond_at at l a b) × Expression ys b zs
  second_from ys zs t (alternative {b = b} h e) = (b, refl, e)

  second_same : IsSign sign.COLON s → depth l + 1 ≤ most → depth a ≤ most - 1 → Same (s ∷ []) (cond_at at l a) Expression (Alternative at l a) ends_full (λ t. depth t ≤ most - 1) (λ t. depth t ≤ most)
  second_same h room first = record {
    into = λ ys zs b r. alternative h r;
    from = λ ys zs t r e. second_from ys zs t r;
    up = λ b q. let d = depth_cond at l a b in omega (arith, d);
    down = λ b q. let d = depth_cond at l a b in omega (arith, d);
  }

  pub second_fails : (e : ParseFault) → IsSign sign.COLON s → depth l + 1 ≤ most → depth a ≤ most - 1 → FailsWithin Expression depth ends_full (most - 1) xs e → FailsWithin (Alternative at l a) depth ends_full most (s ∷ xs) e
  second_fails e h room first f = fails_image (image_of (second_same h room first)) ends_full xs e f

  pub second_found : (b : Expr) (zs : Tokens) → IsSign sign.COLON s → Found Expression (λ _. ends_full) xs b zs → Found (Alternative at l a) (λ _. ends_full) (s ∷ xs) (cond_at at l a b) zs
  second_found b zs h f = found_image (image_of (second_always h)) f where
    second_always : IsSign sign.COLON s → Same (s ∷ []) (cond_at at l a) Expression (Alternative at l a) ends_full Any Any
    second_always h = record {
      into = λ ys zs b r. alternative h r;
      from = λ ys zs t r e. second_from ys zs t r;
      up = λ b q. tt;
      down = λ b q. tt;
    }

  second_never : (more zs : Tokens) (t : Expr) → (IsSign sign.COLON s → ⊥) → Alternative at l a (s ∷ more) t zs → ⊥
  second_never more zs t other (alternative h e) = other h

  pub second_wrong : (e : ParseFault) → (IsSign sign.COLON s → ⊥) → Refused s e → depth l + 1 ≤ most → depth a ≤ most - 1 → FailsWithin (Alternative at l a) depth ends_full most (s ∷ xs) e
  second_wrong e other r room first = fails_at (Alternative at l a) ends_full (λ t. depth t ≤ most) [] s xs e r
      (λ zs e'. (
        a_sign sign.COLON ∷ a_number ∷ [],
        cond_at at l a zero_expr,
        alternative refl (expression_number zs),
        e',
        let d = depth_cond at l a zero_expr in let n = depth_positive l in let z : depth zero_expr ≡ 1 = depth_number nowhere 0 false in omega (arith, d, n, z),
      ))
      (λ more zs t r e' q. second_never more zs t other r)

-- ---- an expression and a closing sign

-- the sign, and the value that was read before it
abbrev pub Tail : ℕ → Expr → Reads Expr
Tail n t [] u zs = ⊥
Tail n t (s ∷ xs) u zs = IsSign n s × (u ≡ t) × (zs ≡ xs)

tail_starts : (n : ℕ) (stands : IsTrue (stands_behind (k.Sign n))) (t : Expr) (ys zs : Tokens) (u : Expr) → Tail n t ys u zs → Ends ends_full ys
tail_starts n stands t [] zs u r = absurd r
tail_starts n stands t (s ∷ ys) zs u r = ap stands_behind r.0 ∙ stands

tail_same : (n : ℕ) (t : Expr) (ys zs : Tokens) (u : Expr) → Tail n t ys u zs → u ≡ t
tail_same n t [] zs u r = absurd r
tail_same n t (s ∷ ys) zs u r = r.1

tail_joint : (n : ℕ) (ends : Token → Bool) (most : ℕ) → IsTrue (stands_behind (k.Sign n)) → Joint Expression (Tail n) ends_full ends (λ t. depth t ≤ most) (λ t. depth t ≤ most)
tail_joint n ends most stands = record {
  starts = λ a ys zs t r e. tail_starts n stands a ys zs t r;
  down = λ a ys zs t r q. let same = tail_same n a ys zs t r in let d : depth t ≡ depth a = ap depth same in omega (arith, d);
  close = a_sign n ∷ [];
  follows = λ zs e. stands;
  closed = λ a zs e. (a, (refl, refl, refl), λ p. p);
}

tail_found : (n : ℕ) (ends : Token → Bool) (t : Expr) (ys zs : Tokens) → Takes n ys zs → Found (Tail n t) (λ _. ends) ys t zs
tail_found n ends t ys zs h = record {
  front = h.first ∷ [];
  split = h.split;
  reads = λ ws f. (h.sign_is, refl, refl);
  only = λ ws zs' t' f r e. (r.1, r.2);
}

tail_never : (n : ℕ) (t : Expr) (s : Token) (more zs : Tokens) (u : Expr) → (IsSign n s → ⊥) → Tail n t (s ∷ more) u zs → ⊥
tail_never n t s more zs u other r = other r.0

tail_fails : (n : ℕ) (ends : Token → Bool) (most : ℕ) (t : Expr) (ys : Tokens) (e : ParseFault) → depth t ≤ most → Lacks n ys e → FailsWithin (Tail n t) depth ends most ys e
tail_fails n ends most t ys e small h =
    subst (λ (x : Tokens). FailsWithin (Tail n t) depth ends most x e) (sym h.split)
    (fails_at (Tail n t) ends (λ u. depth u ≤ most) [] h.first h.rest e h.refused
    (λ zs e'. (a_sign n ∷ [], t, (refl, refl, refl), e', small))
    (λ more zs u r e' q. tail_never n t h.first more zs u h.other r))

-- an expression and the sign behind it
module _ (n : ℕ) (ends : Token → Bool) (most : ℕ) (stands : IsTrue (stands_behind (k.Sign n))) (xs : Tokens) where
  pub shut_fails : (e : ParseFault) → FailsWithin Expression depth ends_full most xs e → FailsWithin (Then Expression (Tail n)) depth ends most xs e
  shut_fails e f = fails_begun (tail_joint n ends most stands) xs e f

  pub shut_wrong : (t : Expr) (ys : Tokens) (e : ParseFault) → Found Expression (λ _. ends_full) xs t ys → depth t ≤ most → Lacks n ys e → FailsWithin (Then Expression (Tail n)) depth ends most xs e
  shut_wrong t ys e g small h = fails_then (step_of (tail_joint n ends most stands)) xs ys t e g (tail_fails n ends most t ys e small h)

  pub shut_found : (t : Expr) (ys zs : Tokens) → Found Expression (λ _. ends_full) xs t ys → Takes n ys zs → Found (Then Expression (Tail n)) (λ _. ends) xs t zs
  shut_found t ys zs g h = found_then (step_of (tail_joint n ends most stands)) g (tail_found n ends t ys zs h)

shut_split : (n : ℕ) (xs ys zs : Tokens) (t u : Expr) → Expression xs t ys → Tail n t ys u zs → (p : Token) × Expression xs u (p ∷ zs) × IsSign n p
shut_split n xs [] zs t u e r = absurd r
shut_split n xs (p ∷ ys) zs t u e r =
    let e' : Expression xs u (p ∷ ys) = subst (λ (x : Expr). Expression xs x (p ∷ ys)) (sym r.1) e in
    (p, subst (λ (x : Tokens). Expression xs u (p ∷ x)) (sym r.2) e', r.0)

closed_into : (xs zs : Tokens) (t : Expr) → Then Expression (Tail sign.CLOSE_PAREN) xs t zs → Closed xs t zs
closed_into xs zs t r = let c = shut_split sign.CLOSE_PAREN xs r.1 zs r.0 t r.2 r.3 in closed c.1 c.2

closed_from : {xs zs : Tokens} {t : Expr} → Closed xs t zs → Then Expression (Tail sign.CLOSE_PAREN) xs t zs
closed_from {zs = zs} {t = t} (closed {p = p} e h) = (t, p ∷ zs, e, (h, refl, refl))

pub closed_same : (ends : Token → Bool) (most : ℕ) → Same [] (λ t. t) (Then Expression (Tail sign.CLOSE_PAREN)) Closed ends (λ t. depth t ≤ most) (λ t. depth t ≤ most)
closed_same ends most = record {
  into = closed_into;
  from = λ xs zs t r e. (t, refl, closed_from r);
  up = λ a q. q;
  down = λ a q. q;
}

bracketed_into : (xs zs : Tokens) (t : Expr) → Then Expression (Tail sign.CLOSE_BRACKET) xs t zs → Bracketed xs t zs
bracketed_into xs zs t r = let c = shut_split sign.CLOSE_BRACKET xs r.1 zs r.0 t r.2 r.3 in bracketed c.1 c.2

bracketed_from : {xs zs : Tokens} {t : Expr} → Bracketed xs t zs → Then Expression (Tail sign.CLOSE_BRACKET) xs t zs
bracketed_from {zs = zs} {t = t} (bracketed {p = p} e h) = (t, p ∷ zs, e, (h, refl, refl))

pub bracketed_same : (ends : Token → Bool) (most : ℕ) → Same [] (λ t. t) (Then Expression (Tail sign.CLOSE_BRACKET)) Bracketed ends (λ t. depth t ≤ most) (λ t. depth t ≤ most)
bracketed_same ends most = record {
  into = bracketed_into;
  from = λ xs zs t r e. (t, refl, bracketed_from r);
  up = λ a q. q;
  down = λ a q. q;
}

pub bracketed_number : (zs : Tokens) → Bracketed (a_number ∷ a_sign sign.CLOSE_BRACKET ∷ zs) zero_expr zs
bracketed_number zs = bracketed (expression_number (a_sign sign.CLOSE_BRACKET ∷ zs)) refl

-- expr ")" and expr "]"
module _ (ends : Token → Bool) (most : ℕ) (xs : Tokens) where
  pub closed_fails : (e : ParseFault) → FailsWithin Expression depth ends_full most xs e → FailsWithin Closed depth ends most xs e
  closed_fails e f = gives_same (closed_same ends most) xs (Err e) (shut_fails sign.CLOSE_PAREN ends most refl xs e f)

  pub closed_wrong : (t : Expr) (ys : Tokens) (e : ParseFault) → Found Expression (λ _. ends_full) xs t ys → depth t ≤ most → Lacks sign.CLOSE_PAREN ys e → FailsWithin Closed depth ends most xs e
  closed_wrong t ys e g small h = gives_same (closed_same ends most) xs (Err e) (shut_wrong sign.CLOSE_PAREN ends most refl xs t ys e g small h)

  pub closed_found : (t : Expr) (ys zs : Tokens) → Found Expression (λ _. ends_full) xs t ys → Takes sign.CLOSE_PAREN ys zs → Found Closed (λ _. ends) xs t zs
  closed_found t ys zs g h = found_image (image_of (closed_same ends most)) (shut_found sign.CLOSE_PAREN ends most refl xs t ys zs g h)

  pub bracketed_fails : (e : ParseFault) → FailsWithin Expression depth ends_full most xs e → FailsWithin Bracketed depth ends most xs e
  bracketed_fails e f = gives_same (bracketed_same ends most) xs (Err e) (shut_fails sign.CLOSE_BRACKET ends most refl xs e f)

  pub bracketed_wrong : (t : Expr) (ys : Tokens) (e : ParseFault) → Found Expression (λ _. ends_full) xs t ys → depth t ≤ most → Lacks sign.CLOSE_BRACKET ys e → FailsWithin Bracketed depth ends most xs e
  bracketed_wrong t ys e g small h = gives_same (bracketed_same ends most) xs (Err e) (shut_wrong sign.CLOSE_BRACKET ends most refl xs t ys e g small h)

  pub bracketed_found : (t : Expr) (ys zs : Tokens) → Found Expression (λ _. ends_full) xs t ys → Takes sign.CLOSE_BRACKET ys zs → Found Bracketed (λ _. ends) xs t zs
  bracketed_found t ys zs g h = found_image (image_of (bracketed_same ends most)) (shut_found sign.CLOSE_BRACKET ends most refl xs t ys zs g h)

-- ---- steps

module _ (at : Place) (l : Expr) (most : ℕ) (s : Token) (xs : Tokens) where
  step_only : (ys zs : Tokens) (u : Expr) → (IsSign sign.DOT s → ⊥) → (IsSign sign.OPEN_BRACKET s → ⊥) → Follows (ends_level 0) (s ∷ xs) ys → Steps at l ys u zs → (u ≡ l) × (zs ≡ ys)
  step_only ys zs u d b f steps_end = (refl, refl)
  step_only ys zs u d b (inl e) (member h n r) = absurd (let g = ap (ends_kind 0) h in cc)
  step_only ys zs u d b (inr same) (member h n r) = absurd (d (subst (λ (x : Token). IsSign sign.DOT x) same h))
  step_only ys zs u d b (inl e) (element h n r) = absurd (let g = ap (ends_kind 0) h in cc)
  step_only ys zs u d b (inr same) (element h n r) = absurd (b (subst (λ (x : Token). IsSign sign.OPEN_BRACKET x) same h))

  pub steps_stop : (IsSign sign.DOT s → ⊥) → (IsSign sign.OPEN_BRACKET s → ⊥) → Found (Steps at l) (λ _. ends_level 0) (s ∷ xs) l (s ∷ xs)
  steps_stop d b = found_nothing (Steps at l) (ends_level 0) (s ∷ xs) l (λ ys. steps_end) (λ ys zs u f r e. step_only ys zs u d b f r)

  step_never : (more zs : Tokens) (t : Expr) → IsSign sign.DOT s ⊎ IsSign sign.OPEN_BRACKET s → depth l ≡ most → Steps at l (s ∷ more) t zs → Ends (ends_level 0) zs → depth t ≤ most → ⊥
  step_never more zs t (inl h) full steps_end e q = let g = ap (ends_kind 0) h in cc
  step_never more zs t (inr h) full steps_end e q = let g = ap (ends_kind 0) h in cc
  step_never more zs t h full (member h' n r) e q = let d = named_depth n in let d' = steps_depth r in absurd (omega (arith, d, d'))
  step_never more zs t h full (element {i = i} h' n r) e q = let d = depth_index at l i in let d' = steps_depth r in absurd (omega (arith, d, d'))

  step_deeper : IsSign sign.DOT s ⊎ IsSign sign.OPEN_BRACKET s → Viable (Steps at l) (λ _. ends_level 0) (ends_level 0) Any (s ∷ [])
  step_deeper (inl h) = λ zs e. (a_name ∷ [], named_at at (Some l) (97 ∷ []), member h (uncalled a_name_is) steps_end, e, tt)
  step_deeper (inr h) = λ zs e. (a_number ∷ a_sign sign.CLOSE_BRACKET ∷ [], index_at at l zero_expr, element h (bracketed_number zs) steps_end, e, tt)

  pub steps_full : IsSign sign.DOT s ⊎ IsSign sign.OPEN_BRACKET s → depth l ≡ most → FailsWithin (Steps at l) depth (ends_level 0) most (s ∷ xs) (TooDeep s.place)
  steps_full h full = deep_at (Steps at l) (ends_level 0) (λ t. depth t ≤ most) [] s xs
      (λ zs e. ([], l, steps_end, e, omega arith))
      (λ more zs t r e q. step_never more zs t h full r e q)
      (step_deeper h)

  member_from : (ys zs : Tokens) (t : Expr) → IsSign sign.DOT s → Steps at l (s ∷ ys) t zs → Ends (ends_level 0) zs → Then (Named at (Some l)) (λ m. Steps at m) ys t zs
  member_from ys zs t h steps_end e = let g = ap (ends_kind 0) h in cc
  member_from ys zs t h (member {ys = ws} {m = m} h' n r) e = (m, ws, n, r)
  member_from ys zs t h (element h' n r) e = let g : sign.DOT ≡ sign.OPEN_BRACKET = cc in absurd (omega (arith, g))

  member_same : IsSign sign.DOT s → Same (s ∷ []) (λ t. t) (Then (Named at (Some l)) (λ m. Steps at m)) (Steps at l) (ends_level 0) (λ t. depth t ≤ most) (λ t. depth t ≤ most)
  member_same h = record {
    into = λ ys zs t r. member h r.2 r.3;
    from = λ ys zs t r e. (t, refl, member_from ys zs t h r e);
    up = λ a q. q;
    down = λ a q. q;
  }

  member_joint : Joint (Named at (Some l)) (λ m. Steps at m) ends_primary (ends_level 0) (λ t. depth t ≤ most) (λ t. depth t ≤ most)
  member_joint = record {
    starts = λ a ys zs t r e. steps_starts r e;
    down = λ a ys zs t r q. let d = steps_depth r in omega (arith, d);
    close = [];
    follows = λ zs e. level_primary_all zs e;
    closed = λ a zs e. (a, steps_end, λ p. p);
  }

  pub member_fails : (e : ParseFault) → IsSign sign.DOT s → FailsWithin (Named at (Some l)) depth ends_primary most xs e → FailsWithin (Steps at l) depth (ends_level 0) most (s ∷ xs) e
  member_fails e h f = gives_same (member_same h) xs (Err e) (fails_begun member_joint xs e f)

  pub member_gives : (ys : Tokens) (m : Expr) (r : Read) → IsSign sign.DOT s → Found (Named at (Some l)) (λ _. ends_primary) xs m ys → Gives (Steps at m) depth (ends_level 0) most ys r → Gives (Steps at l) depth (ends_level 0) most (s ∷ xs) r
  member_gives ys m r h g f = gives_same (member_same h) xs r (gives_then member_joint xs ys m r g f)

  element_from : (ys zs : Tokens) (t : Expr) → IsSign sign.OPEN_BRACKET s → Steps at l (s ∷ ys) t zs → Ends (ends_level 0) zs → Then Bracketed (λ i. Steps at (index_at at l i)) ys t zs
  element_from ys zs t h steps_end e = let g = ap (ends_kind 0) h in cc
  element_from ys zs t h (member h' n r) e = let g : sign.DOT ≡ sign.OPEN_BRACKET = cc in absurd (omega (arith, g))
  element_from ys zs t h (element {ys = ws} {i = i} h' n r) e = (i, ws, n, r)

  element_same : IsSign sign.OPEN_BRACKET s → Same (s ∷ []) (λ t. t) (Then Bracketed (λ i. Steps at (index_at at l i))) (Steps at l) (ends_level 0) (λ t. depth t ≤ most) (λ t. depth t ≤ most)
  element_same h = record {
    into = λ ys zs t r. element h r.2 r.3;
    from = λ ys zs t r e. (t, refl, element_from ys zs t h r e);
    up = λ a q. q;
    down = λ a q. q;
  }

  element_joint : depth l + 1 ≤ most → Joint Bracketed (λ i. Steps at (index_at at l i)) ends_primary (ends_level 0) (λ t. depth t ≤ most - 1) (λ t. depth t ≤ most)
  element_joint room = record {
    starts = λ a ys zs t r e. steps_starts r e;
    down = λ a ys zs t r q. let d = steps_depth r in let d' = depth_index at l a in omega (arith, d, d');
    close = [];
    follows = λ zs e. level_primary_all zs e;
    closed = λ a zs e. (index_at at l a, steps_end, λ p. let d' = depth_index at l a in omega (arith, d'));
  }

  pub element_fails : (e : ParseFault) → IsSign sign.OPEN_BRACKET s → depth l + 1 ≤ most → FailsWithin Bracketed depth ends_primary (most - 1) xs e → FailsWithin (Steps at l) depth (ends_level 0) most (s ∷ xs) e
  element_fails e h room f = gives_same (element_same h) xs (Err e) (fails_begun (element_joint room) xs e f)

  pub element_gives : (ys : Tokens) (i : Expr) (r : Read) → IsSign sign.OPEN_BRACKET s → depth l + 1 ≤ most → Found Bracketed (λ _. ends_primary) xs i ys → Gives (Steps at (index_at at l i)) depth (ends_level 0) most ys r → Gives (Steps at l) depth (ends_level 0) most (s ∷ xs) r
  element_gives ys i r h room g f = gives_same (element_same h) xs r (gives_then (element_joint room) xs ys i r g f)
