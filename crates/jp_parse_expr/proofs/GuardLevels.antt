-- Signs that join guards, operands of guards, and parentheses.
use Rattle.std.proofs.Common.{◌≡◌, ℕ, zero, suc, ◌+◌, ◌-◌, ◌<◌, ◌≤◌, max, Bool, true, false, ◌||◌, IsTrue, List, [], ◌∷◌, ◌++◌, length, Option, Some, None, Result, Ok, Err, refl, sym, ap, ◌∙◌, subst, inl, inr, ◌⊎◌, arith}
use Rattle.std.specs.Borrow.{Bor}
use Rattle.jp_ast.specs.declared.token.Place.{Place}
use Rattle.jp_ast.specs.declared.token.Token.{Token}
use Rattle.jp_ast.specs.declared.guard.GuardExpr.{GuardExpr}
use Rattle.jp_ast.specs.declared.sign.TheConstants as sign
use Rattle.jp_grammar.specs.declared.kind.Kind.{Kind}
use Rattle.jp_grammar.specs.declared.kind.Kind.TheVariants as k
use Rattle.jp_grammar.specs.declared.fault.ParseFault.{ParseFault}
use Rattle.jp_grammar.specs.declared.fault.ParseFault.TheVariants.{TooDeep}
use Rattle.jp_grammar.specs.Kinds.{Is, IsSign, Tokens, place_of, kind_of_token}
use Rattle.jp_grammar.specs.Guards.{Guard, Level, Chain, Gun, Closed, Atom, IsJoin, not_at, joined_at, strongest, weaker, chain_end, chain_sign, opposite, parenthesis, atom, closed}
use Rattle.jp_grammar.specs.Reading.{Reads, Ends, Any, Never, Viable, SameHead, Follows, Found, Fails, FailsWithin, Gives, Refused, Takes, Lacks, Begins}
use Rattle.jp_grammar.specs.Depth.{guard_depth}
use Rattle.jp_grammar.proofs.Sequence.{Then, found_then, found_image, fails_then, fails_image}
use Rattle.jp_grammar.proofs.Choice.{Choice, found_choice, fails_choice}
use Rattle.jp_grammar.proofs.Outcome.{Joint, Same, step_of, image_of, gives_then, gives_same, fails_begun, fails_at, deep_at, found_nothing, Placed, found_placed, fails_placed}
use Rattle.jp_grammar.proofs.Samples.{a_name, a_sign}
use Rattle.jp_parse_expr.specs.BehindGuards.{stands_behind_guard, joins, join_kind, ends_join, ends_guard}
use Rattle.jp_parse_expr.specs.GuardParts.{ReadGuard, is_root, is_simple}
use Rattle.jp_parse_expr.proofs.Alls.{found_fewer, fails_fewer, fails_small}
use Rattle.jp_parse_expr.proofs.GuardDepths.{depth_not, depth_joined, depth_flag, depth_positive}
use Rattle.jp_parse_expr.proofs.GuardEnds.{each, guard_join, join_weaker, join_here, join_inside, join_sign, sign_join}
use Rattle.jp_parse_expr.proofs.GuardFacts.{level_solid, level_shorter, atom_shorter, atom_depth, atom_begins, begins_atom, chain_depth, a_guard, gun_name, level_name, a_guard_depth}

-- ---- a level is the stronger one and a chain

level_split : {n : ℕ} {xs zs : Tokens} {t : GuardExpr} → Level (suc n) xs t zs → Then (Placed (Level n)) (λ x. Chain x.0 n x.1) xs t zs
level_split {xs = xs} (weaker {ys = ys} {l = l} p c) = ((place_of xs, l), ys, (refl, p), c)

level_same : (n most : ℕ) → Same [] (λ t. t) (Then (Placed (Level n)) (λ x. Chain x.0 n x.1)) (Level (suc n)) (ends_join (suc n)) (λ t. guard_depth t ≤ most) (λ t. guard_depth t ≤ most)
level_same n most = record {
  into = λ xs zs t r. weaker r.2.1 (subst (λ (at : Place). Chain at n r.0.1 r.1 t zs) r.2.0 r.3);
  from = λ xs zs t r e. (t, refl, level_split r);
  up = λ a h. h;
  down = λ a h. h;
}

chain_starts : {at : Place} {n : ℕ} {l t : GuardExpr} {ys zs : Tokens} → Chain at n l ys t zs → Ends (ends_join (suc n)) zs → Ends (ends_join n) ys
chain_starts {n = n} {zs = zs} chain_end e = each (join_weaker n) zs e
chain_starts {n = n} (chain_sign {s = s} h l c) e = join_here n s (join_sign n s h)

level_joint : (n most : ℕ) → Joint (Placed (Level n)) (λ x. Chain x.0 n x.1) (ends_join n) (ends_join (suc n)) (λ x. guard_depth x.1 ≤ most) (λ t. guard_depth t ≤ most)
level_joint n most = record {
  starts = λ a ys zs t s e. chain_starts s e;
  down = λ a ys zs t s q. let d = chain_depth s in omega (arith, d);
  close = [];
  follows = λ zs e. each (join_weaker n) zs e;
  closed = λ a zs e. (a.1, chain_end, λ p. p);
}

-- a chain behind what is read
pub level_gives : (n most : ℕ) (s : Token) (begin xs ys : Tokens) (a : GuardExpr) (r : ReadGuard) → begin ≡ s ∷ xs → Found (Level n) (λ _. ends_join n) begin a ys →
    Gives (Chain s.place n a) guard_depth (ends_join (suc n)) most ys r → Gives (Level (suc n)) guard_depth (ends_join (suc n)) most begin r
level_gives n most s begin xs ys a r split g f =
    let place : s.place ≡ place_of begin = sym (ap place_of split) in
    gives_same (level_same n most) begin r (gives_then (level_joint n most) begin ys (place_of begin, a) r (found_placed (level_solid n) g) (subst (λ (at : Place). Gives (Chain at n a) guard_depth (ends_join (suc n)) most ys r) place f))

level_fails_suc : (n most : ℕ) (xs : Tokens) (e : ParseFault) → FailsWithin (Level n) guard_depth (ends_join n) most xs e → FailsWithin (Level (suc n)) guard_depth (ends_join (suc n)) most xs e
level_fails_suc n most xs e f = gives_same (level_same n most) xs (Err e) (fails_begun (level_joint n most) xs e (fails_placed (Level n) (ends_join n) (λ t. guard_depth t ≤ most) xs e f))

-- a fault in a part is one in the whole
level_fails : (d n most : ℕ) (xs : Tokens) (e : ParseFault) → FailsWithin (Level n) guard_depth (ends_join n) most xs e → FailsWithin (Level (d + n)) guard_depth (ends_join (d + n)) most xs e
level_fails zero n most xs e f = let same : n ≡ zero + n = omega arith in subst (λ (x : ℕ). FailsWithin (Level x) guard_depth (ends_join x) most xs e) same f
level_fails (suc d) n most xs e f =
    let same : suc (d + n) ≡ suc d + n = omega arith in
    subst (λ (x : ℕ). FailsWithin (Level x) guard_depth (ends_join x) most xs e) same (level_fails_suc (d + n) most xs e (level_fails d n most xs e f))

-- a fault in a chain is one of the weaker levels
pub chain_fails : (n m most : ℕ) (s : Token) (begin xs ys : Tokens) (a : GuardExpr) (e : ParseFault) → n < m → begin ≡ s ∷ xs → Found (Level n) (λ _. ends_join n) begin a ys → FailsWithin (Chain s.place n a) guard_depth (ends_join (suc n)) most ys e →
    FailsWithin (Level m) guard_depth (ends_join m) most begin e
chain_fails n m most s begin xs ys a e less split g f =
    let same : m - suc n + suc n ≡ m = omega arith in
    subst (λ (x : ℕ). FailsWithin (Level x) guard_depth (ends_join x) most begin e) same (level_fails (m - suc n) (suc n) most begin e (level_gives n most s begin xs ys a (Err e) split g f))

gun_split : {xs zs : Tokens} {t : GuardExpr} → Level zero xs t zs → Gun xs t zs
gun_split (strongest g) = g

gun_same : (most : ℕ) → Same [] (λ t. t) Gun (Level zero) (ends_join zero) (λ t. guard_depth t ≤ most) (λ t. guard_depth t ≤ most)
gun_same most = record {
  into = λ xs zs t r. strongest r;
  from = λ xs zs t r e. (t, refl, gun_split r);
  up = λ a h. h;
  down = λ a h. h;
}

pub level_zero : (xs ys : Tokens) (a : GuardExpr) → Found Gun (λ _. ends_join 0) xs a ys → Found (Level 0) (λ _. ends_join 0) xs a ys
level_zero xs ys a f = found_image (image_of (gun_same 0)) f

pub gun_level_fails : (m most : ℕ) (xs : Tokens) (e : ParseFault) → FailsWithin Gun guard_depth (ends_join 0) most xs e → FailsWithin (Level m) guard_depth (ends_join m) most xs e
gun_level_fails m most xs e f =
    let same : m + 0 ≡ m = omega arith in
    subst (λ (x : ℕ). FailsWithin (Level x) guard_depth (ends_join x) most xs e) same (level_fails m 0 most xs e (gives_same (gun_same most) xs (Err e) f))

-- ---- the signs of a chain

no_follow : (n : ℕ) (s s' : Token) (xs ys : Tokens) → joins (kind_of_token s') ≡ Some n → (joins (kind_of_token s) ≡ Some n → ⊥) → Follows (ends_join (suc n)) (s ∷ xs) (s' ∷ ys) → ⊥
no_follow n s s' xs ys b other (inl e) = join_inside n s' b e
no_follow n s s' xs ys b other (inr same) = other (subst (λ (x : Token). joins (kind_of_token x) ≡ Some n) same b)

module _ (at : Place) (n most : ℕ) (l : GuardExpr) (s : Token) (xs tokens : Tokens) (split : tokens ≡ s ∷ xs) where
  stop_only : (ys zs : Tokens) (u : GuardExpr) → (joins (kind_of_token s) ≡ Some n → ⊥) → Follows (ends_join (suc n)) (s ∷ xs) ys → Chain at n l ys u zs → (u ≡ l) × (zs ≡ ys)
  stop_only ys zs u other f chain_end = (refl, refl)
  stop_only ys zs u other f (chain_sign {s = s'} {xs = xs'} h p c) = absurd (no_follow n s s' xs xs' (join_sign n s' h) other f)

  pub chain_stops : (joins (kind_of_token s) ≡ Some n → ⊥) → Found (Chain at n l) (λ _. ends_join (suc n)) tokens l tokens
  chain_stops other = subst (λ (x : Tokens). Found (Chain at n l) (λ _. ends_join (suc n)) x l x) (sym split)
      (found_nothing (Chain at n l) (ends_join (suc n)) (s ∷ xs) l (λ ys. chain_end) (λ ys zs u f r e. stop_only ys zs u other f r))

  never_full : (more zs : Tokens) (t : GuardExpr) → joins (kind_of_token s) ≡ Some n → guard_depth l ≡ most → Chain at n l (s ∷ more) t zs → Ends (ends_join (suc n)) zs → guard_depth t ≤ most → ⊥
  never_full more zs t b full chain_end e q = join_inside n s b e
  never_full more zs t b full (chain_sign {r = r} h p c) e q = let d = depth_joined at n l r in let d' = chain_depth c in absurd (omega (arith, d, d'))

  pub chain_full : joins (kind_of_token s) ≡ Some n → guard_depth l ≡ most → FailsWithin (Chain at n l) guard_depth (ends_join (suc n)) most tokens (TooDeep s.place)
  chain_full b full = subst (λ (x : Tokens). FailsWithin (Chain at n l) guard_depth (ends_join (suc n)) most x (TooDeep s.place)) (sym split)
      (deep_at (Chain at n l) (ends_join (suc n)) (λ t. guard_depth t ≤ most) [] s xs
      (λ zs e. ([], l, chain_end, e, omega arith))
      (λ more zs t r e q. never_full more zs t b full r e q)
      (λ zs e. (a_name ∷ [], joined_at at n l a_guard, chain_sign (sign_join n s b) (level_name n zs) chain_end, e, tt)))

  -- a sign, its right side, and the rest of the chain
  sign_from : (ys zs : Tokens) (t : GuardExpr) → joins (kind_of_token s) ≡ Some n → Chain at n l (s ∷ ys) t zs → Ends (ends_join (suc n)) zs → Then (Level n) (λ r. Chain at n (joined_at at n l r)) ys t zs
  sign_from ys zs t b chain_end e = absurd (join_inside n s b e)
  sign_from ys zs t b (chain_sign {ys = ws} {r = r} h p c) e = (r, ws, p, c)

  sign_same : joins (kind_of_token s) ≡ Some n → Same (s ∷ []) (λ t. t) (Then (Level n) (λ r. Chain at n (joined_at at n l r))) (Chain at n l) (ends_join (suc n)) (λ t. guard_depth t ≤ most) (λ t. guard_depth t ≤ most)
  sign_same b = record {
    into = λ ys zs t r. chain_sign (sign_join n s b) r.2 r.3;
    from = λ ys zs t r e. (t, refl, sign_from ys zs t b r e);
    up = λ a q. q;
    down = λ a q. q;
  }

  sign_joint : guard_depth l + 1 ≤ most → Joint (Level n) (λ r. Chain at n (joined_at at n l r)) (ends_join n) (ends_join (suc n)) (λ t. guard_depth t ≤ most - 1) (λ t. guard_depth t ≤ most)
  sign_joint room = record {
    starts = λ a ys zs t r e. chain_starts r e;
    down = λ a ys zs t r q. let d = depth_joined at n l a in let d' = chain_depth r in omega (arith, d, d');
    close = [];
    follows = λ zs e. each (join_weaker n) zs e;
    closed = λ a zs e. (joined_at at n l a, chain_end, λ p. let d = depth_joined at n l a in omega (arith, d));
  }

  -- the right side fails
  pub sign_fails : (e : ParseFault) → joins (kind_of_token s) ≡ Some n → guard_depth l + 1 ≤ most → FailsWithin (Level n) guard_depth (ends_join n) (most - 1) xs e → FailsWithin (Chain at n l) guard_depth (ends_join (suc n)) most tokens e
  sign_fails e b room f = subst (λ (x : Tokens). FailsWithin (Chain at n l) guard_depth (ends_join (suc n)) most x e) (sym split) (gives_same (sign_same b) xs (Err e) (fails_begun (sign_joint room) xs e f))

  -- the rest of the chain behind the right side
  pub sign_gives : (ys : Tokens) (a t : GuardExpr) (r : ReadGuard) → joins (kind_of_token s) ≡ Some n → guard_depth l + 1 ≤ most → Found (Level n) (λ _. ends_join n) xs a ys → t ≡ joined_at at n l a →
      Gives (Chain at n t) guard_depth (ends_join (suc n)) most ys r → Gives (Chain at n l) guard_depth (ends_join (suc n)) most tokens r
  sign_gives ys a t r b room g same f = subst (λ (x : Tokens). Gives (Chain at n l) guard_depth (ends_join (suc n)) most x r) (sym split)
      (gives_same (sign_same b) xs r (gives_then (sign_joint room) xs ys a r g (subst (λ (x : GuardExpr). Gives (Chain at n x) guard_depth (ends_join (suc n)) most ys r) same f)))

-- ---- operands

begins_no_sign : (b : ℕ) (s : Token) (ys zs : Tokens) (t : GuardExpr) → IsSign b s → begins_atom (k.Sign b) ≡ false → Atom (s ∷ ys) t zs → ⊥
begins_no_sign b s ys zs t h f a =
    let g : IsTrue (begins_atom (kind_of_token s)) = atom_begins a in
    let f' : begins_atom (kind_of_token s) ≡ begins_atom (k.Sign b) = ap begins_atom h in
    cc

module _ (most : ℕ) (s : Token) (xs tokens : Tokens) (split : tokens ≡ s ∷ xs) (h : IsSign sign.NOT s) where
  not_from : (ys zs : Tokens) (t : GuardExpr) → Gun (s ∷ ys) t zs → (u : GuardExpr) × (t ≡ not_at s.place u) × Gun ys u zs
  not_from ys zs t (opposite {t = u} h' g) = (u, refl, g)
  not_from ys zs t (parenthesis h' c) = absurd (let g : sign.NOT ≡ sign.OPEN_PAREN = cc in omega (arith, g))
  not_from ys zs t (atom a) = absurd (begins_no_sign sign.NOT s ys zs t h refl a)

  not_same : (P Q : GuardExpr → Type 0) → ((t : GuardExpr) → P t → Q (not_at s.place t)) → ((t : GuardExpr) → Q (not_at s.place t) → P t) → Same (s ∷ []) (not_at s.place) Gun Gun (ends_join 0) P Q
  not_same P Q up down = record {
    into = λ ys zs t r. opposite h r;
    from = λ ys zs t r e. not_from ys zs t r;
    up = up;
    down = down;
  }

  pub not_fails : (e : ParseFault) → 1 ≤ most → FailsWithin Gun guard_depth (ends_join 0) (most - 1) xs e → FailsWithin Gun guard_depth (ends_join 0) most tokens e
  not_fails e room f = subst (λ (x : Tokens). FailsWithin Gun guard_depth (ends_join 0) most x e) (sym split)
      (fails_image (image_of (not_same (λ t. guard_depth t ≤ most - 1) (λ t. guard_depth t ≤ most)
      (λ t p. let d = depth_not s.place t in omega (arith, d)) (λ t q. let d = depth_not s.place t in omega (arith, d)))) (ends_join 0) xs e f)

  pub not_found : (t u : GuardExpr) (zs : Tokens) → u ≡ not_at s.place t → Found Gun (λ _. ends_join 0) xs t zs → Found Gun (λ _. ends_join 0) tokens u zs
  not_found t u zs same f = subst (λ (x : Tokens). Found Gun (λ _. ends_join 0) x u zs) (sym split) (subst (λ (x : GuardExpr). Found Gun (λ _. ends_join 0) (s ∷ xs) x zs) (sym same)
      (found_image (image_of (not_same Any Any (λ t p. tt) (λ t q. tt))) f))

  not_never : (more zs : Tokens) (t : GuardExpr) → most ≡ 1 → Gun (s ∷ more) t zs → guard_depth t ≤ most → ⊥
  not_never more zs t one r q =
      let p = not_from more zs t r in
      let d = depth_not s.place p.0 in
      let n = depth_positive p.0 in
      let same : guard_depth t ≡ guard_depth (not_at s.place p.0) = ap guard_depth p.1 in
      absurd (omega (arith, d, n, same))

  -- there is no room for the operand
  pub not_full : most ≡ 1 → FailsWithin Gun guard_depth (ends_join 0) most tokens (TooDeep s.place)
  not_full one = subst (λ (x : Tokens). FailsWithin Gun guard_depth (ends_join 0) most x (TooDeep s.place)) (sym split)
      (deep_at Gun (ends_join 0) (λ t. guard_depth t ≤ most) [] s xs
      (λ zs e. (a_name ∷ [], a_guard, gun_name zs, e, let d = a_guard_depth in omega (arith, d)))
      (λ more zs t r e q. not_never more zs t one r q)
      (λ zs e. (a_name ∷ [], not_at s.place a_guard, opposite h (gun_name zs), e, tt)))

module _ (most : ℕ) (s : Token) (xs tokens : Tokens) (split : tokens ≡ s ∷ xs) (no_not : IsSign sign.NOT s → ⊥) (no_open : IsSign sign.OPEN_PAREN s → ⊥) where
  atom_from : (ys zs : Tokens) (t : GuardExpr) → Gun (s ∷ ys) t zs → Atom (s ∷ ys) t zs
  atom_from ys zs t (opposite h g) = absurd (no_not h)
  atom_from ys zs t (parenthesis h c) = absurd (no_open h)
  atom_from ys zs t (atom a) = a

  atom_choice : Choice s Atom Gun (λ _. ends_join 0)
  atom_choice = record {
    into = λ ys zs t r. atom r;
    from = λ ys zs t r e. atom_from ys zs t r;
    solid = λ ys t r. let h = atom_shorter r in absurd (omega (arith, h));
  }

  small : (ys zs : Tokens) (t : GuardExpr) → 1 ≤ most → Atom ys t zs → guard_depth t ≤ most
  small ys zs t room a = let d = atom_depth a in omega (arith, d)

  pub atom_fails : (e : ParseFault) → 1 ≤ most → Fails Atom (λ _. ends_join 0) (ends_join 0) Any tokens e → FailsWithin Gun guard_depth (ends_join 0) most tokens e
  atom_fails e room f = subst (λ (x : Tokens). FailsWithin Gun guard_depth (ends_join 0) most x e) (sym split)
      (fails_choice atom_choice (ends_join 0) (λ t. guard_depth t ≤ most) xs e (fails_small guard_depth most (λ ys zs t a. small ys zs t room a) (s ∷ xs) e (subst (λ (x : Tokens). Fails Atom (λ _. ends_join 0) (ends_join 0) Any x e) split f)))

  pub atom_found : (t : GuardExpr) (zs : Bor Tokens) → 1 ≤ most → Found Atom (λ _. ends_join 0) tokens t zs.now → Gives Gun guard_depth (ends_join 0) most tokens (Ok (t, 1, zs))
  atom_found t zs room f =
      let d : guard_depth t ≡ 1 = atom_depth (f.reads (a_sign sign.CLOSE_PAREN ∷ []) (inl refl)) in
      (subst (λ (x : Tokens). Found Gun (λ _. ends_join 0) x t zs.now) (sym split) (found_choice atom_choice (subst (λ (x : Tokens). Found Atom (λ _. ends_join 0) x t zs.now) split f)), sym d, room)

-- ---- a guard and `)`

-- `)`, and the guard that was read before it
abbrev Tail : GuardExpr → Reads GuardExpr
Tail t [] u zs = ⊥
Tail t (s ∷ xs) u zs = IsSign sign.CLOSE_PAREN s × (u ≡ t) × (zs ≡ xs)

tail_starts : (t : GuardExpr) (ys zs : Tokens) (u : GuardExpr) → Tail t ys u zs → Ends (ends_join 2) ys
tail_starts t [] zs u r = absurd r
tail_starts t (s ∷ ys) zs u r = ap (join_kind 2) r.0

tail_same : (t : GuardExpr) (ys zs : Tokens) (u : GuardExpr) → Tail t ys u zs → u ≡ t
tail_same t [] zs u r = absurd r
tail_same t (s ∷ ys) zs u r = r.1

tail_joint : (most : ℕ) → Joint (Level 2) Tail (ends_join 2) (ends_join 0) (λ t. guard_depth t ≤ most) (λ t. guard_depth t ≤ most)
tail_joint most = record {
  starts = λ a ys zs t r e. tail_starts a ys zs t r;
  down = λ a ys zs t r q. let same = tail_same a ys zs t r in let d : guard_depth t ≡ guard_depth a = ap guard_depth same in omega (arith, d);
  close = a_sign sign.CLOSE_PAREN ∷ [];
  follows = λ zs e. refl;
  closed = λ a zs e. (a, (refl, refl, refl), λ p. p);
}

tail_found : (t : GuardExpr) (ys zs : Tokens) → Takes sign.CLOSE_PAREN ys zs → Found (Tail t) (λ _. ends_join 0) ys t zs
tail_found t ys zs h = record {
  front = h.first ∷ [];
  split = h.split;
  reads = λ ws f. (h.sign_is, refl, refl);
  only = λ ws zs' t' f r e. (r.1, r.2);
}

tail_never : (t : GuardExpr) (s : Token) (more zs : Tokens) (u : GuardExpr) → (IsSign sign.CLOSE_PAREN s → ⊥) → Tail t (s ∷ more) u zs → ⊥
tail_never t s more zs u other r = other r.0

tail_fails : (most : ℕ) (t : GuardExpr) (ys : Tokens) (e : ParseFault) → guard_depth t ≤ most → Lacks sign.CLOSE_PAREN ys e → FailsWithin (Tail t) guard_depth (ends_join 0) most ys e
tail_fails most t ys e small h =
    subst (λ (x : Tokens). FailsWithin (Tail t) guard_depth (ends_join 0) most x e) (sym h.split)
    (fails_at (Tail t) (ends_join 0) (λ u. guard_depth u ≤ most) [] h.first h.rest e h.refused
    (λ zs e'. (a_sign sign.CLOSE_PAREN ∷ [], t, (refl, refl, refl), e', small))
    (λ more zs u r e' q. tail_never t h.first more zs u h.other r))

closed_into : (xs ys zs : Tokens) (t u : GuardExpr) → Level 2 xs t ys → Tail t ys u zs → Closed xs u zs
closed_into xs [] zs t u l r = absurd r
closed_into xs (p ∷ ys) zs t u l r =
    let l' : Level 2 xs u (p ∷ ys) = subst (λ (x : GuardExpr). Level 2 xs x (p ∷ ys)) (sym r.1) l in
    closed (subst (λ (x : Tokens). Level 2 xs u (p ∷ x)) (sym r.2) l') r.0

closed_from : {xs zs : Tokens} {t : GuardExpr} → Closed xs t zs → Then (Level 2) Tail xs t zs
closed_from {zs = zs} {t = t} (closed {p = p} l h) = (t, p ∷ zs, l, (h, refl, refl))

closed_same : (most : ℕ) → Same [] (λ t. t) (Then (Level 2) Tail) Closed (ends_join 0) (λ t. guard_depth t ≤ most) (λ t. guard_depth t ≤ most)
closed_same most = record {
  into = λ xs zs t r. closed_into xs r.1 zs r.0 t r.2 r.3;
  from = λ xs zs t r e. (t, refl, closed_from r);
  up = λ a q. q;
  down = λ a q. q;
}

module _ (most : ℕ) (xs : Tokens) where
  pub closed_fails : (e : ParseFault) → FailsWithin (Level 2) guard_depth (ends_join 2) most xs e → FailsWithin Closed guard_depth (ends_join 0) most xs e
  closed_fails e f = gives_same (closed_same most) xs (Err e) (fails_begun (tail_joint most) xs e f)

  pub closed_wrong : (t : GuardExpr) (ys : Tokens) (e : ParseFault) → Found (Level 2) (λ _. ends_join 2) xs t ys → guard_depth t ≤ most → Lacks sign.CLOSE_PAREN ys e → FailsWithin Closed guard_depth (ends_join 0) most xs e
  closed_wrong t ys e g small h = gives_same (closed_same most) xs (Err e) (fails_then (step_of (tail_joint most)) xs ys t e g (tail_fails most t ys e small h))

  pub closed_found : (t : GuardExpr) (ys zs : Tokens) → Found (Level 2) (λ _. ends_join 2) xs t ys → Takes sign.CLOSE_PAREN ys zs → Found Closed (λ _. ends_join 0) xs t zs
  closed_found t ys zs g h = found_image (image_of (closed_same most)) (found_then (step_of (tail_joint most)) g (tail_found t ys zs h))

-- ---- a parenthesis

paren_from : (s : Token) (ys zs : Tokens) (t : GuardExpr) → IsSign sign.OPEN_PAREN s → Gun (s ∷ ys) t zs → Closed ys t zs
paren_from s ys zs t h (opposite h' g) = absurd (let g : sign.NOT ≡ sign.OPEN_PAREN = cc in omega (arith, g))
paren_from s ys zs t h (parenthesis h' c) = c
paren_from s ys zs t h (atom a) = absurd (begins_no_sign sign.OPEN_PAREN s ys zs t h refl a)

paren_same : (most : ℕ) (s : Token) → IsSign sign.OPEN_PAREN s → Same (s ∷ []) (λ t. t) Closed Gun (ends_join 0) (λ t. guard_depth t ≤ most) (λ t. guard_depth t ≤ most)
paren_same most s h = record {
  into = λ xs zs t r. parenthesis h r;
  from = λ xs zs t r e. (t, refl, paren_from s xs zs t h r);
  up = λ a q. q;
  down = λ a q. q;
}

pub paren_gives : (most : ℕ) (s : Token) (xs : Tokens) (r : ReadGuard) → IsSign sign.OPEN_PAREN s → Gives Closed guard_depth (ends_join 0) most xs r → Gives Gun guard_depth (ends_join 0) most (s ∷ xs) r
paren_gives most s xs r h g = gives_same (paren_same most s h) xs r g

-- ---- whole guards

guard_two : (s : Token) → IsTrue (ends_guard s) → IsTrue (ends_join 2 s)
guard_two s e = guard_join 2 s e

pub guard_found : (xs zs : Tokens) (t : GuardExpr) → Found (Level 2) (λ _. ends_join 2) xs t zs → Found Guard (λ _. ends_guard) xs t zs
guard_found xs zs t f = found_fewer guard_two f

pub guard_fails : (most : ℕ) (xs : Tokens) (e : ParseFault) → FailsWithin (Level 2) guard_depth (ends_join 2) most xs e → FailsWithin Guard guard_depth ends_guard most xs e
guard_fails most xs e f = fails_fewer guard_two f
