-- One reading behind another, and one reading as another.
use Rattle.std.proofs.Common.{◌≡◌, ℕ, ◌≤◌, List, [], ◌∷◌, ◌++◌, Bool, not, IsTrue, refl, sym, ap, ◌∙◌, subst, inl, inr, ◌⊎◌, append_assoc}
use Rattle.jp_ast.specs.declared.token.Token.{Token}
use Rattle.jp_grammar.specs.declared.fault.ParseFault.{ParseFault}
use Rattle.jp_grammar.specs.Kinds.{Tokens}
use Rattle.jp_grammar.specs.Reading.{Reads, Ends, Any, Never, Viable, SameHead, Follows, Found, Fault, Fails, is_deep}

abbrev pub Then : {A B : Type 0} → Reads A → (A → Reads B) → Reads B
Then {A} {B} R S xs t zs = (a : A) × (ys : Tokens) × R xs a ys × S a ys t zs

-- what a list begins with does not depend on what follows
pub same_front : (front : Tokens) (next : Token) (more more' : Tokens) → SameHead (front ++ next ∷ more) (front ++ next ∷ more')
same_front [] next more more' = refl
same_front (s ∷ front) next more more' = refl

-- what the grammar has to say of S behind R
pub record Step {A B : Type 0} (R : Reads A) (S : A → Reads B) (endsR : A → Token → Bool) (endsS : B → Token → Bool) (followR followS : Token → Bool) (P : A → Type 0) (Q : B → Type 0) : Type 0 where
  pub starts : (a : A) (ys zs : Tokens) (t : B) → S a ys t zs → Ends (endsS t) zs → Ends (endsR a) ys
  pub down : (a : A) (ys zs : Tokens) (t : B) → S a ys t zs → Q t → P a
  pub close : Tokens
  pub follows : (zs : Tokens) → Ends followS zs → Ends followR (close ++ zs)
  pub closed : (a : A) (zs : Tokens) → Ends (endsR a) (close ++ zs) → Ends followS zs → (t : B) × S a (close ++ zs) t zs × Ends (endsS t) zs × (P a → Q t)

module _ {A B : Type 0} {R : Reads A} {S : A → Reads B} {endsR : A → Token → Bool} {endsS : B → Token → Bool} {followR followS : Token → Bool} {P : A → Type 0} {Q : B → Type 0} (step : Step R S endsR endsS followR followS P Q) where
  follows_then : (ys zs ws front : Tokens) (a : A) (t : B) → ys ≡ front ++ zs → S a (front ++ ws) t ws → Follows (endsS t) zs ws → Follows (endsR a) ys (front ++ ws)
  follows_then ys zs ws [] a t split s (inl e) = inl (step.starts a ws ws t s e)
  follows_then ys zs ws [] a t split s (inr same) = inr (subst (λ (x : Tokens). SameHead x ws) (sym split) same)
  follows_then ys zs ws (x ∷ front) a t split s c = inr (subst (λ (x' : Tokens). SameHead x' (x ∷ front ++ ws)) (sym split) refl)

  pub found_then : {xs ys zs : Tokens} {a : A} {t : B} → Found R endsR xs a ys → Found (S a) endsS ys t zs → Found (Then R S) endsS xs t zs
  found_then {xs} {ys} {zs} {a} {t} f g = record {
    front = f.front ++ g.front;
    split = f.split ∙ ap (λ r. f.front ++ r) g.split ∙ sym (append_assoc f.front g.front zs);
    reads = λ ws e. rw append_assoc (
        let s : S a (g.front ++ ws) t ws = g.reads ws e in
        (a, (g.front ++ ws), f.reads (g.front ++ ws) (follows_then ys zs ws g.front a t g.split s e), s));
    only = λ ws zs' t' e r e'.
        let r' : Then R S (f.front ++ (g.front ++ ws)) t' zs' = rw append_assoc at r in
        let s : S a (g.front ++ ws) t ws = g.reads ws e in
        let same : (r'.0 ≡ a) × (r'.1 ≡ g.front ++ ws) = f.only (g.front ++ ws) r'.1 r'.0 (follows_then ys zs ws g.front a t g.split s e) r'.2 (step.starts r'.0 _ _ _ r'.3 e') in
        g.only ws zs' t' e (subst (λ (x : Tokens). S a x t' zs') same.1 (subst (λ (x : A). S x r'.1 t' zs') same.0 r'.3)) e';
  }

  pub fault_first : {err : ParseFault} {xs : Tokens} → Fault R endsR followR P err xs → Fault (Then R S) endsS followS Q err xs
  fault_first {err} {xs} f = record {
    front = f.front;
    next = f.next;
    more = f.more;
    split = f.split;
    tells = f.tells;
    viable = λ zs e.
        let v : (more : Tokens) × (a : A) × R (f.front ++ (more ++ (step.close ++ zs))) a (step.close ++ zs) × Ends (endsR a) (step.close ++ zs) × P a = f.viable (step.close ++ zs) (step.follows zs e) in
        let c = step.closed v.1 zs v.3 e in
        (v.0 ++ step.close, c.0, rw append_assoc (v.1, step.close ++ zs, v.2, c.1), c.2, c.3 v.4);
    never = λ more zs t r e q. f.never more r.1 r.0 r.2 (step.starts r.0 _ _ _ r.3 e) (step.down r.0 _ _ _ r.3 q);
    never_deeper = λ h. λ more zs t r e q. f.never_deeper h more r.1 r.0 r.2 (step.starts r.0 _ _ _ r.3 e) tt;
    deeper = λ h. λ zs e.
        let v : (more : Tokens) × (a : A) × R ((f.front ++ f.next ∷ []) ++ (more ++ (step.close ++ zs))) a (step.close ++ zs) × Ends (endsR a) (step.close ++ zs) × Unit {0} = f.deeper h (step.close ++ zs) (step.follows zs e) in
        let c = step.closed v.1 zs v.3 e in
        (v.0 ++ step.close, c.0, (v.1, step.close ++ zs, subst (λ (x : Tokens). R ((f.front ++ f.next ∷ []) ++ x) v.1 (step.close ++ zs)) (sym (append_assoc v.0 step.close zs)) v.2, c.1), c.2, tt);
  }

  pub fault_then : {err : ParseFault} {xs ys : Tokens} {a : A} → Found R endsR xs a ys → Fault (S a) endsS followS Q err ys → Fault (Then R S) endsS followS Q err xs
  fault_then {err} {xs} {ys} {a} f g =
      let same_next : (more : Tokens) → Follows (endsR a) ys (g.front ++ g.next ∷ more) = λ more.
      inr (subst (λ (x : Tokens). SameHead x (g.front ++ g.next ∷ more)) (sym g.split) (same_front g.front g.next g.more more)) in
      let again : (P' : B → Type 0) (rest : Tokens) → Viable (S a) endsS followS P' rest → Viable (Then R S) endsS followS P' (f.front ++ rest) = λ P' rest v. λ zs e.
      let w : (more : Tokens) × (t : B) × S a (rest ++ (more ++ zs)) t zs × Ends (endsS t) zs × P' t = v zs e in
      (w.0, w.1, subst (λ (x : Tokens). Then R S x w.1 zs) (sym (append_assoc f.front rest (w.0 ++ zs))) (a, rest ++ (w.0 ++ zs), f.reads (rest ++ (w.0 ++ zs)) (inl (step.starts a _ _ _ w.2 w.3)), w.2), w.3, w.4) in
      let no : (P' : B → Type 0) → Never (S a) endsS P' g.front g.next → Never (Then R S) endsS P' (f.front ++ g.front) g.next = λ P' n. λ more zs t r e q.
      let r' : Then R S (f.front ++ (g.front ++ g.next ∷ more)) t zs = rw append_assoc at r in
      let same : (r'.0 ≡ a) × (r'.1 ≡ g.front ++ g.next ∷ more) = f.only (g.front ++ g.next ∷ more) r'.1 r'.0 (same_next more) r'.2 (step.starts r'.0 _ _ _ r'.3 e) in
      n more zs t (subst (λ (x : Tokens). S a x t zs) same.1 (subst (λ (x : A). S x r'.1 t zs) same.0 r'.3)) e q in
      record {
        front = f.front ++ g.front;
        next = g.next;
        more = g.more;
        split = f.split ∙ ap (λ r. f.front ++ r) g.split ∙ sym (append_assoc f.front g.front (g.next ∷ g.more));
        tells = g.tells;
        viable = again Q g.front g.viable;
        never = no Q g.never;
        never_deeper = λ h. no Any (g.never_deeper h);
        deeper = λ h. subst (λ (x : Tokens). Viable (Then R S) endsS followS Any x) (sym (append_assoc f.front g.front (g.next ∷ []))) (again Any (g.front ++ g.next ∷ []) (g.deeper h));
      }

-- S behind the tokens `before` is R, with f of its value
pub record Image {A B : Type 0} (before : Tokens) (f : A → B) (R : Reads A) (S : Reads B) (endsR : A → Token → Bool) (ends : B → Token → Bool) (P : A → Type 0) (Q : B → Type 0) : Type 0 where
  pub same : (a : A) (zs : Tokens) → (Ends (ends (f a)) zs → Ends (endsR a) zs) × (Ends (endsR a) zs → Ends (ends (f a)) zs)
  pub into : (xs zs : Tokens) (a : A) → R xs a zs → S (before ++ xs) (f a) zs
  pub from : (xs zs : Tokens) (t : B) → S (before ++ xs) t zs → Ends (ends t) zs → (a : A) × (t ≡ f a) × R xs a zs
  pub up : (a : A) → P a → Q (f a)
  pub down : (a : A) → Q (f a) → P a

module _ {A B : Type 0} {before : Tokens} {f : A → B} {R : Reads A} {S : Reads B} {endsR : A → Token → Bool} {ends : B → Token → Bool} {P : A → Type 0} {Q : B → Type 0} (image : Image before f R S endsR ends P Q) where
  follows_same : (a : A) (zs ys : Tokens) → Follows (ends (f a)) zs ys → Follows (endsR a) zs ys
  follows_same a zs ys (inl e) = inl ((image.same a ys).0 e)
  follows_same a zs ys (inr h) = inr h

  ends_of : (a : A) (t : B) (zs : Tokens) → t ≡ f a → Ends (ends t) zs → Ends (endsR a) zs
  ends_of a t zs h e = (image.same a zs).0 (subst (λ (x : B). Ends (ends x) zs) h e)

  pub found_image : {xs zs : Tokens} {a : A} → Found R endsR xs a zs → Found S ends (before ++ xs) (f a) zs
  found_image {xs} {zs} {a} g = record {
    front = before ++ g.front;
    split = ap (λ r. before ++ r) g.split ∙ sym (append_assoc before g.front zs);
    reads = λ ws e. rw append_assoc (image.into (g.front ++ ws) ws a (g.reads ws (follows_same a zs ws e)));
    only = λ ws zs' t' e r e'.
        let r' : S (before ++ (g.front ++ ws)) t' zs' = rw append_assoc at r in
        let i = image.from (g.front ++ ws) zs' t' r' e' in
        let same : (i.0 ≡ a) × (zs' ≡ ws) = g.only ws zs' i.0 (follows_same a zs ws e) i.2 (ends_of i.0 t' zs' i.1 e') in
        (i.1 ∙ ap f same.0, same.1);
  }

  pub fault_image : {follow : Token → Bool} {err : ParseFault} {xs : Tokens} → Fault R endsR follow P err xs → Fault S ends follow Q err (before ++ xs)
  fault_image {follow} {err} {xs} g =
      let more_of : (P' : A → Type 0) (Q' : B → Type 0) → ((a : A) → P' a → Q' (f a)) → (rest : Tokens) → Viable R endsR follow P' rest → Viable S ends follow Q' (before ++ rest) = λ P' Q' up rest v. λ zs e.
      let w : (more : Tokens) × (a : A) × R (rest ++ (more ++ zs)) a zs × Ends (endsR a) zs × P' a = v zs e in
      (w.0, f w.1, subst (λ (x : Tokens). S x (f w.1) zs) (sym (append_assoc before rest (w.0 ++ zs))) (image.into _ _ _ w.2), (image.same w.1 zs).1 w.3, up w.1 w.4) in
      let no : (P' : A → Type 0) (Q' : B → Type 0) → ((a : A) → Q' (f a) → P' a) → Never R endsR P' g.front g.next → Never S ends Q' (before ++ g.front) g.next = λ P' Q' down n. λ more zs t r e q.
      let r' : S (before ++ (g.front ++ g.next ∷ more)) t zs = rw append_assoc at r in
      let i = image.from (g.front ++ g.next ∷ more) zs t r' e in
      n more zs i.0 i.2 (ends_of i.0 t zs i.1 e) (down i.0 (subst (λ (x : B). Q' x) i.1 q)) in
      record {
        front = before ++ g.front;
        next = g.next;
        more = g.more;
        split = ap (λ r. before ++ r) g.split ∙ sym (append_assoc before g.front (g.next ∷ g.more));
        tells = g.tells;
        viable = more_of P Q image.up g.front g.viable;
        never = no P Q image.down g.never;
        never_deeper = λ h. no Any Any (λ a u. tt) (g.never_deeper h);
        deeper = λ h. subst (λ (x : Tokens). Viable S ends follow Any x) (sym (append_assoc before g.front (g.next ∷ []))) (more_of Any Any (λ a u. tt) (g.front ++ g.next ∷ []) (g.deeper h));
      }

module _ {A B : Type 0} {R : Reads A} {S : A → Reads B} {endsR : A → Token → Bool} {endsS : B → Token → Bool} {followR followS : Token → Bool} {P : A → Type 0} {Q : B → Type 0} (step : Step R S endsR endsS followR followS P Q) where
  pub fails_first : (xs : Tokens) (err : ParseFault) → Fails R endsR followR P xs err → Fails (Then R S) endsS followS Q xs err
  fails_first xs err (inl m) = inl m
  fails_first xs err (inr f) = inr (fault_first step f)

  pub fails_then : (xs ys : Tokens) (a : A) (err : ParseFault) → Found R endsR xs a ys → Fails (S a) endsS followS Q ys err → Fails (Then R S) endsS followS Q xs err
  fails_then xs ys a err g (inl m) = inl m
  fails_then xs ys a err g (inr f) = inr (fault_then step g f)

module _ {A B : Type 0} {before : Tokens} {f : A → B} {R : Reads A} {S : Reads B} {endsR : A → Token → Bool} {ends : B → Token → Bool} {P : A → Type 0} {Q : B → Type 0} (image : Image before f R S endsR ends P Q) where
  pub fails_image : (follow : Token → Bool) (xs : Tokens) (err : ParseFault) → Fails R endsR follow P xs err → Fails S ends follow Q (before ++ xs) err
  fails_image follow xs err (inl m) = inl m
  fails_image follow xs err (inr g) = inr (fault_image image g)
