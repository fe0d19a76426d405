-- Parts that are read one behind the other, with what was read before.
use Rattle.std.proofs.Common.{◌≡◌, ◌≤◌, ◌<◌, arith, Bool, [], ◌∷◌, ◌++◌, length, Result, Ok, Err, not, IsTrue, refl, sym, ap, subst, inl, inr, ◌⊎◌, append_assoc}
use Rattle.std.specs.Borrow.{Bor}
use Rattle.jp_ast.specs.declared.token.Token.{Token}
use Rattle.jp_grammar.specs.declared.fault.ParseFault.{ParseFault}
use Rattle.jp_grammar.specs.Kinds.{Tokens}
use Rattle.jp_grammar.specs.Reading.{Reads, Ends, Any, Never, Viable, Follows, Found, Fault, Fails, Tells, is_deep}
use Rattle.jp_grammar.proofs.Sequence.{Then, found_then, found_image, fails_first, fails_then, fails_image}
use Rattle.jp_grammar.proofs.Choice.{Choice, found_choice, fails_choice}
use Rattle.jp_grammar.proofs.Outcome.{Joint, Same, step_of, image_of, found_nothing}
use Rattle.jp_parse_decl.specs.Answers.{Yields}

-- what a function answers that reads a part
abbrev pub Answer : Type 0 → Type 0
Answer T = Result (T × Bor Tokens) ParseFault

-- S behind R
module _ {A B : Type 0} {R : Reads A} {S : A → Reads B} {endsR endsS : Token → Bool} {P : A → Type 0} {Q : B → Type 0} (j : Joint R S endsR endsS P Q) where
  pub then_gives : (xs ys : Tokens) (a : A) (r : Answer B) → Found R (λ _. endsR) xs a ys → Yields (S a) endsS Q ys r → Yields (Then R S) endsS Q xs r
  then_gives xs ys a (Ok x) g f = (found_then (step_of j) g f.0, f.1)
  then_gives xs ys a (Err e) g f = fails_then (step_of j) xs ys a e g f

  pub then_fails : (xs : Tokens) (e : ParseFault) → Fails R (λ _. endsR) endsR P xs e → Fails (Then R S) (λ _. endsS) endsS Q xs e
  then_fails xs e f = fails_first (step_of j) xs e f

-- one as another
module _ {A : Type 0} {before : Tokens} {R S : Reads A} {ends : Token → Bool} {P Q : A → Type 0} (i : Same before (λ a. a) R S ends P Q) where
  pub same_gives : (xs : Tokens) (r : Answer A) → Yields R ends P xs r → Yields S ends Q (before ++ xs) r
  same_gives xs (Ok x) g = (found_image (image_of i) g.0, i.up x.0 g.1)
  same_gives xs (Err e) g = fails_image (image_of i) ends xs e g

-- one as another, on lists that begin with a token
module _ {A : Type 0} {s : Token} {R S : Reads A} {ends : Token → Bool} (P : A → Type 0) (choice : Choice s R S (λ _. ends)) where
  pub choice_gives : (xs : Tokens) (r : Answer A) → Yields R ends P (s ∷ xs) r → Yields S ends P (s ∷ xs) r
  choice_gives xs (Ok x) g = (found_choice choice g.0, g.1)
  choice_gives xs (Err e) g = fails_choice choice ends P xs e g

-- R and S read the same
pub record Alike {A : Type 0} (R S : Reads A) (ends : Token → Bool) : Type 0 where
  pub into : (xs zs : Tokens) (a : A) → R xs a zs → S xs a zs
  pub from : (xs zs : Tokens) (a : A) → S xs a zs → Ends ends zs → R xs a zs

alike_same : {A : Type 0} {R S : Reads A} {ends : Token → Bool} {P : A → Type 0} → Alike R S ends → Same [] (λ a. a) R S ends P P
alike_same i = record {
  into = λ xs zs a r. i.into xs zs a r;
  from = λ xs zs a r e. (a, refl, i.from xs zs a r e);
  up = λ a p. p;
  down = λ a p. p;
}

pub alike_gives : {A : Type 0} {R S : Reads A} {ends : Token → Bool} (P : A → Type 0) → Alike R S ends → (xs : Tokens) (r : Answer A) → Yields R ends P xs r → Yields S ends P xs r
alike_gives P i xs r g = same_gives (alike_same i) xs r g

-- the tokens are these
pub moved : {A : Type 0} (R : Reads A) (ends : Token → Bool) (P : A → Type 0) (xs ys : Tokens) (r : Answer A) → xs ≡ ys → Yields R ends P ys r → Yields R ends P xs r
moved R ends P xs ys r split g = subst (λ (x : Tokens). Yields R ends P x r) (sym split) g

-- ---- parts

-- a part: the tokens that it begins with, and some tokens that are it
pub record Part {A : Type 0} (R : Reads A) (ends heads : Token → Bool) (P : A → Type 0) : Type 0 where
  pub starts : (xs zs : Tokens) (a : A) → R xs a zs → Ends ends zs → Ends heads xs
  pub sample : Tokens
  pub value : A
  pub reads : (zs : Tokens) → Ends ends zs → R (sample ++ zs) value zs
  pub holds : P value

-- what is still to be read, behind what was read before
pub record Tail {E T : Type 0} (S : E → Reads T) (ends heads : Token → Bool) (PE : E → Type 0) (Q : T → Type 0) : Type 0 where
  pub starts : (e : E) (xs zs : Tokens) (t : T) → S e xs t zs → Ends ends zs → Ends heads xs
  pub down : (e : E) (xs zs : Tokens) (t : T) → S e xs t zs → Q t → PE e
  pub close : Tokens
  pub closed : (e : E) (zs : Tokens) → Ends ends zs → (t : T) × S e (close ++ zs) t zs × (PE e → Q t)

-- what passes the one test passes the other
abbrev pub Fits : (Token → Bool) → (Token → Bool) → Type 0
Fits heads ends = (s : Token) → IsTrue (heads s) → IsTrue (ends s)

pub fit_ends : {heads ends : Token → Bool} → Fits heads ends → (xs : Tokens) → Ends heads xs → Ends ends xs
fit_ends f [] e = e
fit_ends f (s ∷ xs) e = f s e

-- what holds of the parts before and of the next one
abbrev pub Both : {E A : Type 0} → (E → Type 0) → (A → Type 0) → E × A → Type 0
Both PE P x = PE x.0 × P x.1

-- one more part in front of what is still to be read
module _ {E A T : Type 0} {R : Reads A} {S : E × A → Reads T} {endsR ends headsR headsS : Token → Bool} (PE : E → Type 0) {P : A → Type 0} {Q : T → Type 0}
    (part : Part R endsR headsR P) (tail : Tail S ends headsS (Both PE P) Q) (fit : Fits headsS endsR) where
  pub linked : Tail (λ e. Then R (λ a. S (e, a))) ends headsR PE Q
  linked = record {
    starts = λ e xs zs t r h. part.starts xs r.1 r.0 r.2 (fit_ends fit r.1 (tail.starts (e, r.0) r.1 zs t r.3 h));
    down = λ e xs zs t r q. (tail.down (e, r.0) r.1 zs t r.3 q).0;
    close = part.sample ++ tail.close;
    closed = λ e zs h.
        let c = tail.closed (e, part.value) zs h in
        let i : Ends endsR (tail.close ++ zs) = fit_ends fit (tail.close ++ zs) (tail.starts (e, part.value) (tail.close ++ zs) zs c.0 c.1 h) in (
          c.0,
          subst (λ (x : Tokens). Then R (λ a. S (e, a)) x c.0 zs) (sym (append_assoc part.sample tail.close zs)) (part.value, tail.close ++ zs, part.reads (tail.close ++ zs) i, c.1),
          λ p. c.2 (p, part.holds),
        );
  }

  joint : (e : E) → PE e → Joint R (λ a. S (e, a)) endsR ends P Q
  joint e pe = record {
    starts = λ a ys zs t r h. fit_ends fit ys (tail.starts (e, a) ys zs t r h);
    down = λ a ys zs t r q. (tail.down (e, a) ys zs t r q).1;
    close = tail.close;
    follows = λ zs h. let c = tail.closed (e, part.value) zs h in fit_ends fit (tail.close ++ zs) (tail.starts (e, part.value) (tail.close ++ zs) zs c.0 c.1 h);
    closed = λ a zs h. let c = tail.closed (e, a) zs h in (c.0, c.1, λ p. c.2 (pe, p));
  }

  -- what is given for the tokens behind the part is given for all
  pub goes : (e : E) → PE e → (xs ys : Tokens) (a : A) (r : Answer T) → Found R (λ _. endsR) xs a ys → Yields (S (e, a)) ends Q ys r → Yields (Then R (λ a. S (e, a))) ends Q xs r
  goes e pe xs ys a r g f = then_gives (joint e pe) xs ys a r g f

  -- the part fails
  pub stops : (e : E) → PE e → (xs : Tokens) (err : ParseFault) → Fails R (λ _. endsR) endsR P xs err → Fails (Then R (λ a. S (e, a))) (λ _. ends) ends Q xs err
  stops e pe xs err f = then_fails (joint e pe) xs err f

-- nothing more is to be read, and the value is this
pub data Done {T : Type 0} (v : T) : Tokens → T → Tokens → Type 0 where
  done : {xs : Tokens} → Done v xs v xs

done_starts : {T : Type 0} {v t : T} (ends : Token → Bool) {xs zs : Tokens} → Done v xs t zs → Ends ends zs → Ends ends xs
done_starts ends done h = h

done_value : {T : Type 0} {v t : T} (Q : T → Type 0) {xs zs : Tokens} → Done v xs t zs → Q t → Q v
done_value Q done q = q

pub finished : {E T : Type 0} {ends : Token → Bool} {PE : E → Type 0} {Q : T → Type 0} (f : E → T) → ((e : E) → PE e → Q (f e)) → ((e : E) → Q (f e) → PE e) → Tail (λ e. Done (f e)) ends ends PE Q
finished {ends = ends} {Q = Q} f up down = record {
  starts = λ e xs zs t r h. done_starts ends r h;
  down = λ e xs zs t r q. down e (done_value Q r q);
  close = [];
  closed = λ e zs h. (f e, done, λ p. up e p);
}

done_only : {T : Type 0} (v : T) (ys zs : Tokens) (u : T) → Done v ys u zs → (u ≡ v) × (zs ≡ ys)
done_only v ys zs u done = (refl, refl)

-- the end
pub ended : {T : Type 0} (ends : Token → Bool) (Q : T → Type 0) (v : T) (b : Bor Tokens) → Q v → Yields (Done v) ends Q b.now (Ok (v, b))
ended ends Q v b q = (found_nothing (Done v) ends b.now v (λ ys. done) (λ ys zs u f r e. done_only v ys zs u r), q)

-- a part as all that is still to be read
pub last_part : {E T : Type 0} {R : Reads T} {ends heads : Token → Bool} {PE : E → Type 0} {Q : T → Type 0} → Part R ends heads Q → ((e : E) → PE e) → Tail (λ (e : E). R) ends heads PE Q
last_part part all = record {
  starts = λ e xs zs t r h. part.starts xs zs t r h;
  down = λ e xs zs t r q. all e;
  close = part.sample;
  closed = λ e zs h. (part.value, part.reads zs h, λ p. part.holds);
}

-- ---- one as another, behind a first token

same_tail : {s s' : Token} {xs xs' : Tokens} → s ∷ xs ≡ s' ∷ xs' → xs ≡ xs'
same_tail h = cc

same_cons : {s s' : Token} {xs xs' : Tokens} → s ∷ xs ≡ s' ∷ xs' → s' ≡ s
same_cons h = cc

-- on lists that begin with s, S is R, which reads something in front of some list
pub record Alt {A : Type 0} (s : Token) (R S : Reads A) (ends : Token → Bool) : Type 0 where
  pub into : (xs zs : Tokens) (t : A) → R xs t zs → S xs t zs
  pub from : (xs zs : Tokens) (t : A) → S (s ∷ xs) t zs → Ends ends zs → R (s ∷ xs) t zs
  pub bad : Tokens
  pub bad_ends : Ends ends bad
  pub solid : (t : A) → R bad t bad → ⊥

module _ {A : Type 0} {s : Token} {R S : Reads A} {ends : Token → Bool} (P : A → Type 0) (alt : Alt s R S ends) where
  alt_only : (front zs xs : Tokens) (t : A) → s ∷ xs ≡ front ++ zs → ((ys : Tokens) → Follows ends zs ys → R (front ++ ys) t ys) →
      (ys zs' : Tokens) (t' : A) → S (front ++ ys) t' zs' → Ends ends zs' → R (front ++ ys) t' zs'
  alt_only [] zs xs t split reads ys zs' t' r e = absurd (alt.solid t (reads alt.bad (inl alt.bad_ends)))
  alt_only (s' ∷ front) zs xs t split reads ys zs' t' r e =
      let same : s' ≡ s = same_cons split in
      subst (λ (x : Token). R (x ∷ (front ++ ys)) t' zs') (sym same) (alt.from (front ++ ys) zs' t' (subst (λ (x : Token). S (x ∷ (front ++ ys)) t' zs') same r) e)

  alt_found : (xs zs : Tokens) (t : A) → Found R (λ _. ends) (s ∷ xs) t zs → Found S (λ _. ends) (s ∷ xs) t zs
  alt_found xs zs t g = record {
    front = g.front;
    split = g.split;
    reads = λ ys f. alt.into _ _ _ (g.reads ys f);
    only = λ ys zs' t' f r e. g.only ys zs' t' f (alt_only g.front zs xs t g.split g.reads ys zs' t' r e) e;
  }

  alt_fault : (front : Tokens) (next : Token) (more xs : Tokens) → s ∷ xs ≡ front ++ next ∷ more → (more' zs' : Tokens) (t' : A) → S (front ++ next ∷ more') t' zs' → Ends ends zs' → R (front ++ next ∷ more') t' zs'
  alt_fault [] next more xs split more' zs' t' r e =
      let same : next ≡ s = same_cons split in
      subst (λ (x : Token). R (x ∷ more') t' zs') (sym same) (alt.from more' zs' t' (subst (λ (x : Token). S (x ∷ more') t' zs') same r) e)
  alt_fault (s' ∷ front) next more xs split more' zs' t' r e =
      let same : s' ≡ s = same_cons split in
      subst (λ (x : Token). R (x ∷ (front ++ next ∷ more')) t' zs') (sym same) (alt.from (front ++ next ∷ more') zs' t' (subst (λ (x : Token). S (x ∷ (front ++ next ∷ more')) t' zs') same r) e)

  alt_fails : (xs : Tokens) (e : ParseFault) → Fails R (λ _. ends) ends P (s ∷ xs) e → Fails S (λ _. ends) ends P (s ∷ xs) e
  alt_fails xs e (inl m) = inl m
  alt_fails xs e (inr g) = inr (record {
    front = g.front;
    next = g.next;
    more = g.more;
    split = g.split;
    tells = g.tells;
    viable = λ zs h. let v = g.viable zs h in (v.0, v.1, alt.into _ _ _ v.2, v.3, v.4);
    never = λ more zs t r h q. g.never more zs t (alt_fault g.front g.next g.more xs g.split more zs t r h) h q;
    never_deeper = λ d. λ more zs t r h q. g.never_deeper d more zs t (alt_fault g.front g.next g.more xs g.split more zs t r h) h q;
    deeper = λ d. λ zs h. let v = g.deeper d zs h in (v.0, v.1, alt.into _ _ _ v.2, v.3, v.4);
  })

  pub alt_gives : (xs : Tokens) (r : Answer A) → Yields R ends P (s ∷ xs) r → Yields S ends P (s ∷ xs) r
  alt_gives xs (Ok x) g = (alt_found xs x.1.now x.0 g.0, g.1)
  alt_gives xs (Err e) g = alt_fails xs e g

-- ---- what is read behind a token

-- S, where the token stands before
abbrev pub After : {T : Type 0} → Token → Reads T → Reads T
After c S xs t zs = S (c ∷ xs) t zs

pub after_same : {T : Type 0} (c : Token) (S : Reads T) (ends : Token → Bool) (P : T → Type 0) → Same (c ∷ []) (λ t. t) (After c S) S ends P P
after_same c S ends P = record {
  into = λ xs zs t r. r;
  from = λ xs zs t r e. (t, refl, r);
  up = λ a p. p;
  down = λ a p. p;
}

module _ {T : Type 0} (c : Token) (S : Reads T) (ends : Token → Bool) (P : T → Type 0) (xs : Tokens) where
  found_at : (front zs : Tokens) (t : T) → c ∷ xs ≡ front ++ zs → ((ys : Tokens) → Follows ends zs ys → S (front ++ ys) t ys) →
      ((ys zs' : Tokens) (t' : T) → Follows ends zs ys → S (front ++ ys) t' zs' → Ends ends zs' → (t' ≡ t) × (zs' ≡ ys)) →
      (bad : Tokens) → Ends ends bad → (S bad t bad → ⊥) → Found (After c S) (λ _. ends) xs t zs
  found_at [] zs t split reads only bad bad_ends solid = absurd (solid (reads bad (inl bad_ends)))
  found_at (s ∷ front) zs t split reads only bad bad_ends solid =
      let same : s ≡ c = same_cons split in
      record {
        front = front;
        split = same_tail split;
        reads = λ ys f. subst (λ (x : Token). S (x ∷ (front ++ ys)) t ys) same (reads ys f);
        only = λ ys zs' t' f r e. only ys zs' t' f (subst (λ (x : Token). S (x ∷ (front ++ ys)) t' zs') (sym same) r) e;
      }

  fault_at : (e : ParseFault) (front : Tokens) (next : Token) (rest : Tokens) → c ∷ xs ≡ front ++ next ∷ rest → Tells e next → Viable S (λ _. ends) ends P front → Never S (λ _. ends) P front next →
      (IsTrue (not (is_deep e)) → Never S (λ _. ends) Any front next) → (IsTrue (is_deep e) → Viable S (λ _. ends) ends Any (front ++ next ∷ [])) → ((more zs : Tokens) (t : T) → S (c ∷ more) t zs → Ends ends zs → P t → ⊥) ⊎ Fault (After c S) (λ _. ends) ends P e xs
  fault_at e [] next rest split tells viable never flat deeper =
      let same : next ≡ c = same_cons split in
      inl (λ more zs t r h p. never more zs t (subst (λ (x : Token). S (x ∷ more) t zs) (sym same) r) h p)
  fault_at e (s ∷ front) next rest split tells viable never flat deeper =
      let same : s ≡ c = same_cons split in
      inr (record {
        front = front;
        next = next;
        more = rest;
        split = same_tail split;
        tells = tells;
        viable = λ zs h. let v = viable zs h in (v.0, v.1, subst (λ (x : Token). S (x ∷ (front ++ (v.0 ++ zs))) v.1 zs) same v.2, v.3, v.4);
        never = λ more zs t r h p. never more zs t (subst (λ (x : Token). S (x ∷ (front ++ next ∷ more)) t zs) (sym same) r) h p;
        never_deeper = λ f. λ more zs t r h p. flat f more zs t (subst (λ (x : Token). S (x ∷ (front ++ next ∷ more)) t zs) (sym same) r) h p;
        deeper = λ f. λ zs h. let v = deeper f zs h in (v.0, v.1, subst (λ (x : Token). S (x ∷ ((front ++ next ∷ []) ++ (v.0 ++ zs))) v.1 zs) same v.2, v.3, v.4);
      })

  fails_after : (e : ParseFault) → Fails S (λ _. ends) ends P (c ∷ xs) e → (more zs : Tokens) (t : T) → S (c ∷ more) t zs → Ends ends zs → P t → Fails (After c S) (λ _. ends) ends P xs e
  fails_after e (inl m) more zs t r h p = inl m
  fails_after e (inr g) more zs t r h p = elim (fault_at e g.front g.next g.more g.split g.tells g.viable g.never g.never_deeper g.deeper) [ inl n ↦ absurd (n more zs t r h p) | inr f ↦ inr f ]

  -- what is given for all is given for what stands behind the token
  pub after_gives : (r : Answer T) (bad : Tokens) → Ends ends bad → ((t : T) → S bad t bad → ⊥) → (more zs : Tokens) (t : T) → S (c ∷ more) t zs → Ends ends zs → P t → Yields S ends P (c ∷ xs) r → Yields (After c S) ends P xs r
  after_gives (Ok x) bad bad_ends solid more zs t r h p g = (found_at g.0.front x.1.now x.0 g.0.split g.0.reads g.0.only bad bad_ends (solid x.0), g.1)
  after_gives (Err e) bad bad_ends solid more zs t r h p g = fails_after e g more zs t r h p

-- ---- a part takes some tokens

grown : (front zs : Tokens) → length zs ≤ length (front ++ zs)
grown [] zs = omega arith
grown (s ∷ front) zs = let h = grown front zs in omega (arith, h)

shorter_at : {T : Type 0} (R : Reads T) (ends : Token → Bool) (bad front xs zs : Tokens) (t : T) → Ends ends bad → (R bad t bad → ⊥) → xs ≡ front ++ zs → ((ys : Tokens) → Follows ends zs ys → R (front ++ ys) t ys) → length zs < length xs
shorter_at R ends bad [] xs zs t bad_ends solid split reads = absurd (solid (reads bad (inl bad_ends)))
shorter_at R ends bad (s ∷ front) xs zs t bad_ends solid split reads = let h = grown front zs in let l : length xs ≡ length (s ∷ (front ++ zs)) = ap length split in omega (arith, h, l)

pub found_shorter : {T : Type 0} (R : Reads T) (ends : Token → Bool) (bad xs zs : Tokens) (t : T) → Ends ends bad → (R bad t bad → ⊥) → Found R (λ _. ends) xs t zs → length zs < length xs
found_shorter R ends bad xs zs t bad_ends solid g = shorter_at R ends bad g.front xs zs t bad_ends solid g.split g.reads
