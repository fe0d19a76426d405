-- One reading behind another, and one as another, where what may stand behind is the same for all trees.
use Rattle.std.proofs.Common.{◌≡◌, ℕ, ◌≤◌, List, [], ◌∷◌, ◌++◌, Bool, true, false, Result, Ok, Err, IsTrue, not, refl, sym, ap, ◌∙◌, subst, inl, inr, ◌⊎◌, append_assoc}
use Rattle.std.specs.Borrow.{Bor}
use Rattle.jp_ast.specs.declared.token.Place.{Place}
use Rattle.jp_ast.specs.declared.token.Token.{Token}
use Rattle.jp_grammar.specs.declared.fault.ParseFault.{ParseFault}
use Rattle.jp_grammar.specs.declared.fault.ParseFault.TheVariants.{TooDeep, OutOfMemory}
use Rattle.jp_grammar.specs.Kinds.{Tokens, place_of}
use Rattle.jp_grammar.specs.Reading.{Reads, Ends, Any, Never, Viable, SameHead, Follows, Found, Fault, Fails, FailsWithin, Gives, Refused, Tells, is_deep}
use Rattle.jp_grammar.proofs.Sequence.{Then, Step, Image, found_then, found_image, fails_first, fails_then, fails_image}

-- S behind R
pub record Joint {A B : Type 0} (R : Reads A) (S : A → Reads B) (endsR endsS : Token → Bool) (P : A → Type 0) (Q : B → Type 0) : Type 0 where
  pub starts : (a : A) (ys zs : Tokens) (t : B) → S a ys t zs → Ends endsS zs → Ends endsR ys
  pub down : (a : A) (ys zs : Tokens) (t : B) → S a ys t zs → Q t → P a
  pub close : Tokens
  pub follows : (zs : Tokens) → Ends endsS zs → Ends endsR (close ++ zs)
  pub closed : (a : A) (zs : Tokens) → Ends endsS zs → (t : B) × S a (close ++ zs) t zs × (P a → Q t)

pub step_of : {A B : Type 0} {R : Reads A} {S : A → Reads B} {endsR endsS : Token → Bool} {P : A → Type 0} {Q : B → Type 0} →
    Joint R S endsR endsS P Q → Step R S (λ _. endsR) (λ _. endsS) endsR endsS P Q
step_of j = record {
  starts = j.starts;
  down = j.down;
  close = j.close;
  follows = j.follows;
  closed = λ a zs e e'. let c = j.closed a zs e' in (c.0, c.1, e', c.2);
}

-- S behind the tokens `before` is R, with f of its value
pub record Same {A B : Type 0} (before : Tokens) (f : A → B) (R : Reads A) (S : Reads B) (ends : Token → Bool) (P : A → Type 0) (Q : B → Type 0) : Type 0 where
  pub into : (xs zs : Tokens) (a : A) → R xs a zs → S (before ++ xs) (f a) zs
  pub from : (xs zs : Tokens) (t : B) → S (before ++ xs) t zs → Ends ends zs → (a : A) × (t ≡ f a) × R xs a zs
  pub up : (a : A) → P a → Q (f a)
  pub down : (a : A) → Q (f a) → P a

pub image_of : {A B : Type 0} {before : Tokens} {f : A → B} {R : Reads A} {S : Reads B} {ends : Token → Bool} {P : A → Type 0} {Q : B → Type 0} →
    Same before f R S ends P Q → Image before f R S (λ _. ends) (λ _. ends) P Q
image_of i = record {
  same = λ a zs. (λ e. e, λ e. e);
  into = i.into;
  from = i.from;
  up = i.up;
  down = i.down;
}

-- the answers of a part that is read behind another, or as another
module _ {A B : Type 0} {R : Reads A} {S : A → Reads B} {endsR endsS : Token → Bool} {P : A → Type 0} {depthS : B → ℕ} {n : ℕ}
    (j : Joint R S endsR endsS P (λ t. depthS t ≤ n)) where
  pub gives_then : (xs ys : Tokens) (a : A) (r : Result (B × ℕ × Bor Tokens) ParseFault) → Found R (λ _. endsR) xs a ys → Gives (S a) depthS endsS n ys r → Gives (Then R S) depthS endsS n xs r
  gives_then xs ys a (Ok x) g f = (found_then (step_of j) g f.0, f.1, f.2)
  gives_then xs ys a (Err e) g f = fails_then (step_of j) xs ys a e g f

  pub fails_begun : (xs : Tokens) (e : ParseFault) → Fails R (λ _. endsR) endsR P xs e → FailsWithin (Then R S) depthS endsS n xs e
  fails_begun xs e f = fails_first (step_of j) xs e f

module _ {A : Type 0} {before : Tokens} {R S : Reads A} {ends : Token → Bool} {depth : A → ℕ} {n : ℕ}
    (i : Same before (λ a. a) R S ends (λ a. depth a ≤ n) (λ t. depth t ≤ n)) where
  pub gives_same : (xs : Tokens) (r : Result (A × ℕ × Bor Tokens) ParseFault) → Gives R depth ends n xs r → Gives S depth ends n (before ++ xs) r
  gives_same xs (Ok x) g = (found_image (image_of i) g.0, g.1, g.2)
  gives_same xs (Err e) g = fails_image (image_of i) ends xs e g

-- ---- faults behind some tokens

no_both : (b : Bool) → IsTrue b → IsTrue (not b) → ⊥
no_both true h i = cc
no_both false h i = cc

-- nothing is read that goes on with the token
pub fails_at : {T : Type 0} (R : Reads T) (ends : Token → Bool) (P : T → Type 0) (front : Tokens) (next : Token) (more : Tokens) (e : ParseFault) →
    Refused next e → Viable R (λ _. ends) ends P front → Never R (λ _. ends) Any front next → Fails R (λ _. ends) ends P (front ++ next ∷ more) e
fails_at R ends P front next more e (inl m) viable never = inl m
fails_at R ends P front next more e (inr r) viable never = inr (record {
  front = front;
  next = next;
  more = more;
  split = refl;
  tells = r.0;
  viable = viable;
  never = λ m zs t d e' q. never m zs t d e' tt;
  never_deeper = λ h. never;
  deeper = λ h. absurd (no_both (is_deep e) h r.1);
})

-- only something too deep goes on with the token
pub deep_at : {T : Type 0} (R : Reads T) (ends : Token → Bool) (P : T → Type 0) (front : Tokens) (next : Token) (more : Tokens) →
    Viable R (λ _. ends) ends P front → Never R (λ _. ends) P front next → Viable R (λ _. ends) ends Any (front ++ next ∷ []) → Fails R (λ _. ends) ends P (front ++ next ∷ more) (TooDeep next.place)
deep_at R ends P front next more viable never deeper = inr (record {
  front = front;
  next = next;
  more = more;
  split = refl;
  tells = refl;
  viable = viable;
  never = never;
  never_deeper = λ h. cc;
  deeper = λ h. deeper;
})

-- nothing is read, and the part is read so
pub found_nothing : {T : Type 0} (R : Reads T) (ends : Token → Bool) (xs : Tokens) (t : T) →
    ((ys : Tokens) → R ys t ys) → ((ys zs : Tokens) (u : T) → Follows ends xs ys → R ys u zs → Ends ends zs → (u ≡ t) × (zs ≡ ys)) → Found R (λ _. ends) xs t xs
found_nothing R ends xs t reads only = record {
  front = [];
  split = refl;
  reads = λ ys f. reads ys;
  only = λ ys zs u f r e. only ys zs u f r e;
}

-- ---- a value with the place where it begins

-- what is read, with the place where it begins
abbrev pub Placed : {A : Type 0} → Reads A → Reads (Place × A)
Placed {A} R xs x zs = (x.0 ≡ place_of xs) × R xs x.1 zs

same_pair : {A : Type 0} (x y : Place × A) → x.0 ≡ y.0 → x.1 ≡ y.1 → x ≡ y
same_pair (p, a) (p', a') h i = cc

place_front : {A : Type 0} (R : Reads A) → ((xs : Tokens) (a : A) → R xs a xs → ⊥) → (front zs ys : Tokens) (a : A) → R (front ++ ys) a ys → place_of (front ++ zs) ≡ place_of (front ++ ys)
place_front R solid [] zs ys a r = absurd (solid ys a r)
place_front R solid (s ∷ front) zs ys a r = refl

-- the place of what takes at least one token
pub found_placed : {A : Type 0} {R : Reads A} {ends : Token → Bool} {xs zs : Tokens} {a : A} →
    ((xs : Tokens) (a : A) → R xs a xs → ⊥) → Found R (λ _. ends) xs a zs → Found (Placed R) (λ _. ends) xs (place_of xs, a) zs
found_placed {A} {R} {ends} {xs} {zs} {a} solid g =
    let at : (ys : Tokens) → Follows ends zs ys → place_of xs ≡ place_of (g.front ++ ys) = λ ys f. ap place_of g.split ∙ place_front R solid g.front zs ys a (g.reads ys f) in
    record {
      front = g.front;
      split = g.split;
      reads = λ ys f. (at ys f, g.reads ys f);
      only = λ ys zs' t' f r e.
          let o : (t'.1 ≡ a) × (zs' ≡ ys) = g.only ys zs' t'.1 f r.1 e in
          (same_pair t' (place_of xs, a) (r.0 ∙ sym (at ys f)) o.0, o.1);
    }

pub fails_placed : {A : Type 0} (R : Reads A) (ends : Token → Bool) (P : A → Type 0) (xs : Tokens) (e : ParseFault) →
    Fails R (λ _. ends) ends P xs e → Fails (Placed R) (λ _. ends) ends (λ x. P x.1) xs e
fails_placed R ends P xs e (inl m) = inl m
fails_placed R ends P xs e (inr g) = inr (record {
  front = g.front;
  next = g.next;
  more = g.more;
  split = g.split;
  tells = g.tells;
  viable = λ zs e'. let v = g.viable zs e' in (v.0, (place_of (g.front ++ (v.0 ++ zs)), v.1), (refl, v.2), v.3, v.4);
  never = λ more zs t r e' q. g.never more zs t.1 r.1 e' q;
  never_deeper = λ h. λ more zs t r e' q. g.never_deeper h more zs t.1 r.1 e' q;
  deeper = λ h. λ zs e'. let v = g.deeper h zs e' in (v.0, (place_of ((g.front ++ g.next ∷ []) ++ (v.0 ++ zs)), v.1), (refl, v.2), v.3, v.4);
})
