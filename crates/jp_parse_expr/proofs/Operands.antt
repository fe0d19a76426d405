-- Operands that begin with no sign, and operands in parentheses.
use Rattle.std.proofs.Common.{◌≡◌, ℕ, zero, suc, ◌+◌, ◌-◌, ◌<◌, ◌≤◌, Bool, true, false, ◌&&◌, IsTrue, List, [], ◌∷◌, ◌++◌, length, Option, Some, None, Result, Ok, Err, refl, sym, ap, ◌∙◌, subst, inl, inr, ◌⊎◌, arith}
use Rattle.std.specs.Borrow.{Bor}
use Rattle.jp_ast.specs.declared.token.Place.{Place}
use Rattle.jp_ast.specs.declared.token.Token.{Token}
use Rattle.jp_ast.specs.declared.expr.Expr.{Expr}
use Rattle.jp_ast.specs.declared.sign.TheConstants as sign
use Rattle.jp_grammar.specs.declared.kind.Kind.{Kind}
use Rattle.jp_grammar.specs.declared.kind.Kind.TheVariants as k
use Rattle.jp_grammar.specs.declared.fault.ParseFault.{ParseFault}
use Rattle.jp_grammar.specs.Kinds.{Is, IsSign, IsName, Tokens, place_of, kind_of_token, kind_of_lexeme, is_sign_kind, is_sign_of}
use Rattle.jp_grammar.specs.Trees.{named_at}
use Rattle.jp_grammar.specs.Expressions.{Unary, Plain, Postfix, Primary, NewArray, Steps, Closed, negation, unary_plain, inversion, cast, plain_postfix, postfix, postfix_array, steps_end, new_array, number, text, truth, falsehood, nothing, receiver, parenthesis, name, super_call, new_object, uncalled, called, closed, is_inversion, is_negation}
use Rattle.jp_grammar.specs.Reading.{Reads, Ends, Any, Never, Viable, SameHead, Follows, Found, Fault, Fails, FailsWithin, Gives, Begins}
use Rattle.jp_grammar.specs.Behind.{begins_plain, ends_level, ends_primary}
use Rattle.jp_grammar.specs.Depth.{depth}
use Rattle.jp_grammar.proofs.Sequence.{Then}
use Rattle.jp_grammar.proofs.Choice.{Choice, found_choice, fails_choice}
use Rattle.jp_grammar.proofs.Outcome.{Joint, Same, gives_then, gives_same, fails_begun, Placed, found_placed, fails_placed}
use Rattle.jp_grammar.proofs.Facts.{primary_shorter, steps_shorter, array_shorter, postfix_shorter, closed_shorter, expression_shorter, primary_solid, steps_starts, steps_depth, level_primary_all, plain_begins}
use Rattle.jp_grammar.proofs.Excluding.{plain_primary, level_primary}
use Rattle.jp_grammar.proofs.Depths.{depth_number, depth_var}
use Rattle.jp_grammar.proofs.Words.{name_token}
use Rattle.jp_grammar.proofs.Samples.{a_number, a_sign, zero_expr, expression_number}
use Rattle.jp_parse_expr.specs.Ahead.{is_name, is_plain_next, is_cast_end, is_cast, Opens}
use Rattle.jp_parse_expr.specs.Parts.{Read}
use Rattle.jp_parse_expr.proofs.NameAlone.{name_expression}
use Rattle.jp_parse_expr.proofs.Signs.{sign_is}

pub gives_choice : {s : Token} {R S : Reads Expr} {ends : Token → Bool} (choice : Choice s R S (λ _. ends)) (most : ℕ) (xs : Tokens) (r : Read) →
    Gives R depth ends most (s ∷ xs) r → Gives S depth ends most (s ∷ xs) r
gives_choice choice most xs (Ok x) g = (found_choice choice g.0, g.1, g.2)
gives_choice {ends = ends} choice most xs (Err e) g = fails_choice choice ends (λ t. depth t ≤ most) xs e g

-- ---- a primary and its steps

postfix_solid : (xs : Tokens) (t : Expr) → Postfix xs t xs → ⊥
postfix_solid xs t r = let h = postfix_shorter r in absurd (omega arith)

stepped_solid : (xs : Tokens) (t : Expr) → Then (Placed Primary) (λ x. Steps x.0 x.1) xs t xs → ⊥
stepped_solid xs t r = let a = primary_shorter r.2.1 in let b = steps_shorter r.3 in absurd (omega (arith, a, b))

stepped_join : (xs zs : Tokens) (t : Expr) → Then (Placed Primary) (λ x. Steps x.0 x.1) xs t zs → Postfix xs t zs
stepped_join xs zs t r = postfix r.2.1 (subst (λ (at : Place). Steps at r.0.1 r.1 t zs) r.2.0 r.3)

stepped_split : (s : Token) (ys zs : Tokens) (t : Expr) → (Is k.New s → ⊥) → Postfix (s ∷ ys) t zs → Then (Placed Primary) (λ x. Steps x.0 x.1) (s ∷ ys) t zs
stepped_split s ys zs t other (postfix {ys = ws} {l = l} p r) = ((s.place, l), ws, (refl, p), r)
stepped_split s ys zs t other (postfix_array (new_array h e o b) n r) = absurd (other h)

stepped_choice : (s : Token) → (Is k.New s → ⊥) → Choice s (Then (Placed Primary) (λ x. Steps x.0 x.1)) Postfix (λ _. ends_level 0)
stepped_choice s other = record {
  into = stepped_join;
  from = λ xs zs t r e. stepped_split s xs zs t other r;
  solid = stepped_solid;
}

stepped_joint : (most : ℕ) → Joint (Placed Primary) (λ x. Steps x.0 x.1) ends_primary (ends_level 0) (λ x. depth x.1 ≤ most) (λ t. depth t ≤ most)
stepped_joint most = record {
  starts = λ a ys zs t r e. steps_starts r e;
  down = λ a ys zs t r q. let d = steps_depth r in omega (arith, d);
  close = [];
  follows = λ zs e. level_primary_all zs e;
  closed = λ a zs e. (a.1, steps_end, λ p. p);
}

module _ (most : ℕ) (s : Token) (xs : Tokens) (other : Is k.New s → ⊥) where
  -- the primary fails
  pub postfix_fails : (e : ParseFault) → FailsWithin Primary depth ends_primary most (s ∷ xs) e → FailsWithin Postfix depth (ends_level 0) most (s ∷ xs) e
  postfix_fails e f = gives_choice (stepped_choice s other) most xs (Err e) (fails_begun (stepped_joint most) (s ∷ xs) e (fails_placed Primary ends_primary (λ t. depth t ≤ most) (s ∷ xs) e f))

  -- the steps behind the primary
  pub postfix_gives : (ys : Tokens) (a : Expr) (r : Read) → Found Primary (λ _. ends_primary) (s ∷ xs) a ys → Gives (Steps s.place a) depth (ends_level 0) most ys r → Gives Postfix depth (ends_level 0) most (s ∷ xs) r
  postfix_gives ys a r g f = gives_choice (stepped_choice s other) most xs r (gives_then (stepped_joint most) (s ∷ xs) ys (s.place, a) r (found_placed primary_solid g) f)

-- ---- what begins with no sign is a postfix

unary_postfix : {xs zs : Tokens} {t : Expr} → Postfix xs t zs → Unary xs t zs
unary_postfix p = unary_plain (plain_postfix p)

signless_split : (s : Token) (ys zs : Tokens) (t : Expr) → ((n : ℕ) → IsSign n s → ⊥) → Unary (s ∷ ys) t zs → Postfix (s ∷ ys) t zs
signless_split s ys zs t lacks (negation {b = b} h i u) = absurd (lacks b h)
signless_split s ys zs t lacks (unary_plain (inversion {b = b} h i u)) = absurd (lacks b h)
signless_split s ys zs t lacks (unary_plain (cast h n p r)) = absurd (lacks sign.OPEN_PAREN h)
signless_split s ys zs t lacks (unary_plain (plain_postfix p)) = p

signless_choice : (s : Token) → ((n : ℕ) → IsSign n s → ⊥) → Choice s Postfix Unary (λ _. ends_level 0)
signless_choice s lacks = record {
  into = λ xs zs t r. unary_postfix r;
  from = λ xs zs t r e. signless_split s xs zs t lacks r;
  solid = postfix_solid;
}

pub signless_gives : (most : ℕ) (s : Token) (xs : Tokens) (r : Read) → ((n : ℕ) → IsSign n s → ⊥) → Gives Postfix depth (ends_level 0) most (s ∷ xs) r → Gives Unary depth (ends_level 0) most (s ∷ xs) r
signless_gives most s xs r lacks g = gives_choice (signless_choice s lacks) most xs r g

-- ---- a parenthesis that begins no cast

-- behind a parenthesis stand a name, `)` and what begins a plain
pub record CastAt (ys : Tokens) : Type 0 where
  pub class : Token
  pub paren : Token
  pub next : Token
  pub more : Tokens
  pub split : ys ≡ class ∷ paren ∷ next ∷ more
  pub is_class : Is k.Name class
  pub is_paren : IsSign sign.CLOSE_PAREN paren
  pub begins : IsTrue (begins_plain (kind_of_token next))

cast_true : (c p y : Token) (ys : Tokens) → Is k.Name c → IsSign sign.CLOSE_PAREN p → IsTrue (begins_plain (kind_of_token y)) → is_cast (c ∷ p ∷ y ∷ ys) ≡ true
cast_true c p y ys n h b =
    let a : is_name (kind_of_token c) ≡ true = ap is_name n in
    let d : is_sign_of sign.CLOSE_PAREN p ≡ true = ap (is_sign_kind sign.CLOSE_PAREN) h in
    let e : begins_plain (kind_of_token y) ≡ true = b in
    ap (λ x. x && (is_sign_of sign.CLOSE_PAREN p && begins_plain (kind_of_token y))) a ∙ ap (λ x. x && begins_plain (kind_of_token y)) d ∙ e

cast_no : (ys : Tokens) → is_cast ys ≡ false → CastAt ys → ⊥
cast_no ys lacks c =
    let yes : is_cast ys ≡ true = ap is_cast c.split ∙ cast_true c.class c.paren c.next c.more c.is_class c.is_paren c.begins in
    cc

and_parts : (a b : Bool) → (a && b) ≡ true → (a ≡ true) × (b ≡ true)
and_parts true b h = (refl, h)
and_parts false b h = cc

name_kind : (kind : Kind) → is_name kind ≡ true → kind ≡ k.Name
name_kind k.Name h = refl
name_kind _ h = cc

pub cast_parts : (ys : Tokens) → is_cast ys ≡ true → CastAt ys
cast_parts [] h = cc
cast_parts (c ∷ []) h = let p = and_parts (is_name (kind_of_token c)) false h in cc (p.1)
cast_parts (c ∷ p ∷ []) h =
    let a = and_parts (is_name (kind_of_token c)) (is_sign_of sign.CLOSE_PAREN p && false) h in
    let b = and_parts (is_sign_of sign.CLOSE_PAREN p) false a.1 in
    cc (b.1)
cast_parts (c ∷ p ∷ y ∷ more) h =
    let a = and_parts (is_name (kind_of_token c)) (is_sign_of sign.CLOSE_PAREN p && begins_plain (kind_of_token y)) h in
    let b = and_parts (is_sign_of sign.CLOSE_PAREN p) (begins_plain (kind_of_token y)) a.1 in
    record {
      class = c;
      paren = p;
      next = y;
      more = more;
      split = refl;
      is_class = name_kind (kind_of_token c) a.0;
      is_paren = sign_is sign.CLOSE_PAREN p b.0;
      begins = b.1;
    }

-- where the first three tokens are the same, both or none is a cast
cast_moved : (c p y : Token) (ys zs : Tokens) → CastAt (c ∷ p ∷ y ∷ ys) → CastAt (c ∷ p ∷ y ∷ zs)
cast_moved c p y ys zs h =
    let a : h.class ≡ c = cc (h.split) in
    let b : h.paren ≡ p = cc (h.split) in
    let d : h.next ≡ y = cc (h.split) in
    record {
      class = c;
      paren = p;
      next = y;
      more = zs;
      split = refl;
      is_class = subst (λ (x : Token). Is k.Name x) a h.is_class;
      is_paren = subst (λ (x : Token). IsSign sign.CLOSE_PAREN x) b h.is_paren;
      begins = subst (λ (x : Token). IsTrue (begins_plain (kind_of_token x))) d h.begins;
    }

-- the cast's first token of its operand
cast_next : (c p : Token) (xs zs : Tokens) (t : Expr) (class : List ℕ) → IsName class c → IsSign sign.CLOSE_PAREN p → Plain xs t zs → CastAt (c ∷ p ∷ xs)
cast_next c p [] zs t class n h r = absurd (plain_begins r)
cast_next c p (y ∷ xs) zs t class n h r = record {
  class = c;
  paren = p;
  next = y;
  more = xs;
  split = refl;
  is_class = n.1;
  is_paren = h;
  begins = plain_begins r;
}

-- no `(` turns an operand
pub paren_negation : (b : ℕ) (s : Token) → IsSign sign.OPEN_PAREN s → IsSign b s → IsTrue (is_negation b) → ⊥
paren_negation b s h i e = let same : b ≡ sign.OPEN_PAREN = cc in let e' : IsTrue (is_negation sign.OPEN_PAREN) = rw same at e in cc

pub paren_inversion : (b : ℕ) (s : Token) → IsSign sign.OPEN_PAREN s → IsSign b s → IsTrue (is_inversion b) → ⊥
paren_inversion b s h i e = let same : b ≡ sign.OPEN_PAREN = cc in let e' : IsTrue (is_inversion sign.OPEN_PAREN) = rw same at e in cc

paren_split : (s : Token) (ys zs : Tokens) (t : Expr) → IsSign sign.OPEN_PAREN s → Unary (s ∷ ys) t zs → Postfix (s ∷ ys) t zs ⊎ CastAt ys
paren_split s ys zs t h (negation {b = b} i e u) = absurd (paren_negation b s h i e)
paren_split s ys zs t h (unary_plain (inversion {b = b} i e u)) = absurd (paren_inversion b s h i e)
paren_split s ys zs t h (unary_plain (cast {c = c} {p = p} {xs = xs} {t = u} {class = class} i n q r)) = inr (cast_next c p xs zs u class n q r)
paren_split s ys zs t h (unary_plain (plain_postfix p)) = inl p

-- a postfix that begins with a parenthesis takes three tokens
paren_primary : (s : Token) (ys zs : Tokens) (t : Expr) → IsSign sign.OPEN_PAREN s → Primary (s ∷ ys) t zs → length zs + 2 ≤ length ys
paren_primary s ys zs t h (number i) = let g : k.Number ≡ k.Sign sign.OPEN_PAREN = sym (ap kind_of_lexeme i) ∙ h in cc
paren_primary s ys zs t h (text i) = let g : k.Text ≡ k.Sign sign.OPEN_PAREN = sym (ap kind_of_lexeme i) ∙ h in cc
paren_primary s ys zs t h (truth i) = cc
paren_primary s ys zs t h (falsehood i) = cc
paren_primary s ys zs t h (nothing i) = cc
paren_primary s ys zs t h (receiver i) = cc
paren_primary s ys zs t h (parenthesis i (closed e q)) = let a = expression_shorter e in omega (arith, a)
paren_primary s ys zs t h (name (uncalled n)) = let g = n.1 in cc
paren_primary s ys zs t h (name (called n i a)) = let g = n.1 in cc
paren_primary s ys zs t h (super_call i d n o a) = cc
paren_primary s ys zs t h (new_object i n o a) = cc

paren_postfix : (s : Token) (ys zs : Tokens) (t : Expr) → IsSign sign.OPEN_PAREN s → Postfix (s ∷ ys) t zs → length zs + 2 ≤ length ys
paren_postfix s ys zs t h (postfix {ys = ws} {l = l} p r) = let a = paren_primary s ys ws l h p in let b = steps_shorter r in omega (arith, a, b)
paren_postfix s ys zs t h (postfix_array (new_array i e o b) n r) = cc

head_begins : (zs : Tokens) (y : Token) (ys : Tokens) → SameHead zs (y ∷ ys) → (more : Tokens) × (zs ≡ y ∷ more)
head_begins [] y ys h = absurd h
head_begins (z ∷ zs) y ys h = (zs, ap (λ (x : Token). x ∷ zs) (sym h))

-- what stands in front of both decides, unless it is too short
uncast_found : (front zs ys : Tokens) (s : Token) (a : Expr) → is_cast (front ++ zs) ≡ false → IsSign sign.OPEN_PAREN s → Postfix (s ∷ (front ++ ys)) a ys → Follows (ends_level 0) zs ys → CastAt (front ++ ys) → ⊥
uncast_found [] zs ys s a lacks h p f c = let d = paren_postfix s ys ys a h p in absurd (omega (arith, d))
uncast_found (c' ∷ []) zs ys s a lacks h p f c = let d = paren_postfix s (c' ∷ ys) ys a h p in absurd (omega (arith, d))
uncast_found (c' ∷ p' ∷ []) zs [] s a lacks h p f c = cc (c.split)
uncast_found (c' ∷ p' ∷ []) zs (y ∷ ys) s a lacks h p (inl e) c =
    let same : c.next ≡ y = cc (c.split) in
    let b : IsTrue (begins_plain (kind_of_token y)) = subst (λ (x : Token). IsTrue (begins_plain (kind_of_token x))) same c.begins in
    plain_primary (kind_of_token y) b (level_primary (kind_of_token y) e)
uncast_found (c' ∷ p' ∷ []) zs (y ∷ ys) s a lacks h p (inr same) c =
    let z = head_begins zs y ys same in
    cast_no (c' ∷ p' ∷ y ∷ z.0) (sym (ap (λ (x : Tokens). is_cast (c' ∷ p' ∷ x)) z.1) ∙ lacks) (cast_moved c' p' y ys z.0 c)
uncast_found (c' ∷ p' ∷ y ∷ front) zs ys s a lacks h p f c = cast_no (c' ∷ p' ∷ y ∷ (front ++ zs)) lacks (cast_moved c' p' y (front ++ ys) (front ++ zs) c)

same_cons : {s s' : Token} {xs xs' : Tokens} → s ∷ xs ≡ s' ∷ xs' → (s' ≡ s) × (xs ≡ xs')
same_cons h = (cc, cc)

uncast_only : (s : Token) (rest front zs ys zs' : Tokens) (a u : Expr) → IsSign sign.OPEN_PAREN s → is_cast rest ≡ false → s ∷ rest ≡ front ++ zs → Postfix (front ++ ys) a ys → Follows (ends_level 0) zs ys →
    Unary (front ++ ys) u zs' → Postfix (front ++ ys) u zs'
uncast_only s rest [] zs ys zs' a u h lacks split p f r = absurd (postfix_solid ys a p)
uncast_only s rest (s' ∷ front) zs ys zs' a u h lacks split p f r =
    let same = same_cons split in
    let h' : IsSign sign.OPEN_PAREN s' = subst (λ (x : Token). IsSign sign.OPEN_PAREN x) (sym same.0) h in
    let lacks' : is_cast (front ++ zs) ≡ false = sym (ap is_cast same.1) ∙ lacks in
    elim (paren_split s' (front ++ ys) zs' u h' r) [ inl q ↦ q | inr c ↦ absurd (uncast_found front zs ys s' a lacks' h' p f c) ]

pub uncast_is_found : (s : Token) (rest zs : Tokens) (a : Expr) → IsSign sign.OPEN_PAREN s → is_cast rest ≡ false → Found Postfix (λ _. ends_level 0) (s ∷ rest) a zs → Found Unary (λ _. ends_level 0) (s ∷ rest) a zs
uncast_is_found s rest zs a h lacks g = record {
  front = g.front;
  split = g.split;
  reads = λ ys f. unary_postfix (g.reads ys f);
  only = λ ys zs' u f r e. g.only ys zs' u f (uncast_only s rest g.front zs ys zs' a u h lacks g.split (g.reads ys f) f r) e;
}

-- `(0)` and `(name)`
paren_number : (s : Token) (zs : Tokens) → IsSign sign.OPEN_PAREN s → Postfix (s ∷ a_number ∷ a_sign sign.CLOSE_PAREN ∷ zs) zero_expr zs
paren_number s zs h = postfix (parenthesis h (closed (expression_number (a_sign sign.CLOSE_PAREN ∷ zs)) refl)) steps_end

pub paren_name : (s c p : Token) (zs : Tokens) (class : List ℕ) → IsSign sign.OPEN_PAREN s → IsName class c → IsSign sign.CLOSE_PAREN p → Postfix (s ∷ c ∷ p ∷ zs) (named_at c.place None class) zs
paren_name s c p zs class h n q = postfix (parenthesis h (closed (name_expression c class (p ∷ zs) n) q)) steps_end

-- the end of a text
abbrev an_end : Tokens
an_end = a_sign sign.CLOSE_PAREN ∷ []

uncast_clash : (P : Expr → Type 0) (small : (t : Expr) → depth t ≡ 1 → P t) (s : Token) (front : Tokens) (next : Token) (more more' : Tokens) →
    IsSign sign.OPEN_PAREN s → is_cast (front ++ next ∷ more) ≡ false → Never Postfix (λ _. ends_level 0) P (s ∷ front) next → CastAt (front ++ next ∷ more') → ⊥
uncast_clash P small s [] next more more' h lacks n c =
    let same : c.class ≡ next = cc (c.split) in
    let w = name_token next (subst (λ (x : Token). Is k.Name x) same c.is_class) in
    n (a_sign sign.CLOSE_PAREN ∷ an_end) an_end (named_at next.place None w.0) (paren_name s next (a_sign sign.CLOSE_PAREN) an_end w.0 h w.1 refl) refl (small _ (depth_var next.place w.0))
uncast_clash P small s (c' ∷ []) next more more' h lacks n c =
    let first : c.class ≡ c' = cc (c.split) in
    let second : c.paren ≡ next = cc (c.split) in
    let w = name_token c' (subst (λ (x : Token). Is k.Name x) first c.is_class) in
    let q : IsSign sign.CLOSE_PAREN next = subst (λ (x : Token). IsSign sign.CLOSE_PAREN x) second c.is_paren in
    n an_end an_end (named_at c'.place None w.0) (paren_name s c' next an_end w.0 h w.1 q) refl (small _ (depth_var c'.place w.0))
uncast_clash P small s (c' ∷ p' ∷ []) next more more' h lacks n c = cast_no (c' ∷ p' ∷ next ∷ more) lacks (cast_moved c' p' next more' more c)
uncast_clash P small s (c' ∷ p' ∷ y ∷ front) next more more' h lacks n c = cast_no (c' ∷ p' ∷ y ∷ (front ++ next ∷ more)) lacks (cast_moved c' p' y (front ++ next ∷ more') (front ++ next ∷ more) c)

uncast_never : (P : Expr → Type 0) (small : (t : Expr) → depth t ≡ 1 → P t) (s : Token) (rest front : Tokens) (next : Token) (more : Tokens) →
    IsSign sign.OPEN_PAREN s → is_cast rest ≡ false → s ∷ rest ≡ front ++ next ∷ more → Never Postfix (λ _. ends_level 0) P front next → Never Unary (λ _. ends_level 0) P front next
uncast_never P small s rest [] next more h lacks split n = λ more' zs t r e q.
    let same = same_cons split in
    let h' : IsSign sign.OPEN_PAREN next = subst (λ (x : Token). IsSign sign.OPEN_PAREN x) (sym same.0) h in
    n (a_number ∷ a_sign sign.CLOSE_PAREN ∷ an_end) an_end zero_expr (paren_number next an_end h') refl (small zero_expr (depth_number _ 0 false))
uncast_never P small s rest (s' ∷ front) next more h lacks split n = λ more' zs t r e q.
    let same = same_cons split in
    let h' : IsSign sign.OPEN_PAREN s' = subst (λ (x : Token). IsSign sign.OPEN_PAREN x) (sym same.0) h in
    let lacks' : is_cast (front ++ next ∷ more) ≡ false = sym (ap is_cast same.1) ∙ lacks in
    elim (paren_split s' (front ++ next ∷ more') zs t h' r) [ inl p ↦ n more' zs t p e q | inr c ↦ uncast_clash P small s' front next more more' h' lacks' n c ]

viable_unary : (P : Expr → Type 0) (front : Tokens) → Viable Postfix (λ _. ends_level 0) (ends_level 0) P front → Viable Unary (λ _. ends_level 0) (ends_level 0) P front
viable_unary P front v = λ zs e. let w = v zs e in (w.0, w.1, unary_postfix w.2, w.3, w.4)

uncast_fault : (most : ℕ) (s : Token) (rest : Tokens) (err : ParseFault) → 1 ≤ most → IsSign sign.OPEN_PAREN s → is_cast rest ≡ false →
    Fault Postfix (λ _. ends_level 0) (ends_level 0) (λ t. depth t ≤ most) err (s ∷ rest) → Fault Unary (λ _. ends_level 0) (ends_level 0) (λ t. depth t ≤ most) err (s ∷ rest)
uncast_fault most s rest err room h lacks g = record {
  front = g.front;
  next = g.next;
  more = g.more;
  split = g.split;
  tells = g.tells;
  viable = viable_unary (λ t. depth t ≤ most) g.front g.viable;
  never = uncast_never (λ t. depth t ≤ most) (λ t d. omega (arith, d)) s rest g.front g.next g.more h lacks g.split g.never;
  never_deeper = λ i. uncast_never Any (λ t d. tt) s rest g.front g.next g.more h lacks g.split (g.never_deeper i);
  deeper = λ i. viable_unary Any (g.front ++ g.next ∷ []) (g.deeper i);
}

pub uncast_gives : (most : ℕ) (s : Token) (rest : Tokens) (r : Read) → 1 ≤ most → IsSign sign.OPEN_PAREN s → is_cast rest ≡ false →
    Gives Postfix depth (ends_level 0) most (s ∷ rest) r → Gives Unary depth (ends_level 0) most (s ∷ rest) r
uncast_gives most s rest (Ok x) room h lacks g = (uncast_is_found s rest x.2.now x.0 h lacks g.0, g.1, g.2)
uncast_gives most s rest (Err e) room h lacks (inl m) = inl m
uncast_gives most s rest (Err e) room h lacks (inr g) = inr (uncast_fault most s rest e room h lacks g)

-- ---- a parenthesis

pub closed_from : (s : Token) (xs zs : Tokens) (t : Expr) → IsSign sign.OPEN_PAREN s → Primary (s ∷ xs) t zs → Closed xs t zs
closed_from s xs zs t h (number i) = let g : k.Number ≡ k.Sign sign.OPEN_PAREN = sym (ap kind_of_lexeme i) ∙ h in cc
closed_from s xs zs t h (text i) = let g : k.Text ≡ k.Sign sign.OPEN_PAREN = sym (ap kind_of_lexeme i) ∙ h in cc
closed_from s xs zs t h (truth i) = cc
closed_from s xs zs t h (falsehood i) = cc
closed_from s xs zs t h (nothing i) = cc
closed_from s xs zs t h (receiver i) = cc
closed_from s xs zs t h (parenthesis i c) = c
closed_from s xs zs t h (name (uncalled n)) = let g = n.1 in cc
closed_from s xs zs t h (name (called n i a)) = let g = n.1 in cc
closed_from s xs zs t h (super_call i d n o a) = cc
closed_from s xs zs t h (new_object i n o a) = cc

paren_same : (most : ℕ) (s : Token) → IsSign sign.OPEN_PAREN s → Same (s ∷ []) (λ t. t) Closed Primary ends_primary (λ t. depth t ≤ most) (λ t. depth t ≤ most)
paren_same most s h = record {
  into = λ xs zs t r. parenthesis h r;
  from = λ xs zs t r e. (t, refl, closed_from s xs zs t h r);
  up = λ a q. q;
  down = λ a q. q;
}

pub paren_gives : (most : ℕ) (s : Token) (xs : Tokens) (r : Read) → IsSign sign.OPEN_PAREN s → Gives Closed depth ends_primary most xs r → Gives Primary depth ends_primary most (s ∷ xs) r
paren_gives most s xs r h g = gives_same (paren_same most s h) xs r g

-- `(` begins no created object
pub paren_no_new : (s : Token) → IsSign sign.OPEN_PAREN s → Is k.New s → ⊥
paren_no_new s h i = cc
