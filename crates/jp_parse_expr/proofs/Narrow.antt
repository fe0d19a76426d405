-- One reading as another, on lists that begin with a certain token.
use Rattle.std.proofs.Common.{◌≡◌, ℕ, ◌≤◌, List, [], ◌∷◌, ◌++◌, Bool, not, IsTrue, Result, Ok, Err, refl, sym, ap, ◌∙◌, subst, inl, inr, ◌⊎◌, append_assoc}
use Rattle.jp_ast.specs.declared.token.Token.{Token}
use Rattle.jp_grammar.specs.declared.fault.ParseFault.{ParseFault}
use Rattle.jp_grammar.specs.Kinds.{Tokens}
use Rattle.jp_grammar.specs.Reading.{Reads, Ends, Any, Never, Viable, SameHead, Follows, Found, Fault, Fails, is_deep}

-- on lists that begin with s, S is R, which reads at least one token
pub record Narrow {A : Type 0} (s : Token) (R S : Reads A) (ends : Token → Bool) : Type 0 where
  pub into : (xs zs : Tokens) (t : A) → R (s ∷ xs) t zs → S (s ∷ xs) t zs
  pub from : (xs zs : Tokens) (t : A) → S (s ∷ xs) t zs → Ends ends zs → R (s ∷ xs) t zs
  pub solid : (xs : Tokens) (t : A) → R xs t xs → ⊥

same_cons : {s s' : Token} {xs xs' : Tokens} → s ∷ xs ≡ s' ∷ xs' → s' ≡ s
same_cons h = cc

module _ {A : Type 0} {s : Token} {R S : Reads A} {ends : Token → Bool} (narrow : Narrow s R S ends) where
  moved : (T U : Reads A) (s' : Token) (xs zs : Tokens) (t : A) → s' ≡ s → (T (s ∷ xs) t zs → U (s ∷ xs) t zs) → T (s' ∷ xs) t zs → U (s' ∷ xs) t zs
  moved T U s' xs zs t same f r = subst (λ (x : Token). U (x ∷ xs) t zs) (sym same) (f (subst (λ (x : Token). T (x ∷ xs) t zs) same r))

  into_front : (front ws xs ys : Tokens) (t : A) → s ∷ xs ≡ front ++ ws → R (front ++ ys) t ys → S (front ++ ys) t ys
  into_front [] ws xs ys t split r = absurd (narrow.solid ys t r)
  into_front (s' ∷ front) ws xs ys t split r = moved R S s' (front ++ ys) ys t (same_cons split) (narrow.into (front ++ ys) ys t) r

  from_front : (front ws xs ys : Tokens) (t t' : A) (zs' : Tokens) → s ∷ xs ≡ front ++ ws → R (front ++ ys) t ys → S (front ++ ys) t' zs' → Ends ends zs' → R (front ++ ys) t' zs'
  from_front [] ws xs ys t t' zs' split solid r e = absurd (narrow.solid ys t solid)
  from_front (s' ∷ front) ws xs ys t t' zs' split solid r e = moved S R s' (front ++ ys) zs' t' (same_cons split) (λ u. narrow.from (front ++ ys) zs' t' u e) r

  pub found_narrow : {xs zs : Tokens} {t : A} → Found R (λ _. ends) (s ∷ xs) t zs → Found S (λ _. ends) (s ∷ xs) t zs
  found_narrow {xs} {zs} {t} g = record {
    front = g.front;
    split = g.split;
    reads = λ ys f. into_front g.front zs xs ys t g.split (g.reads ys f);
    only = λ ys zs' t' f r e. g.only ys zs' t' f (from_front g.front zs xs ys t t' zs' g.split (g.reads ys f) r e) e;
  }

  viable_front : (follow : Token → Bool) (P : A → Type 0) (front ws xs : Tokens) → s ∷ xs ≡ front ++ ws → Viable S (λ _. ends) follow P [] → Viable R (λ _. ends) follow P front → Viable S (λ _. ends) follow P front
  viable_front follow P [] ws xs split none v = none
  viable_front follow P (s' ∷ front) ws xs split none v = λ zs e.
      let w : (more : Tokens) × (t : A) × R ((s' ∷ front) ++ (more ++ zs)) t zs × Ends ends zs × P t = v zs e in
      (w.0, w.1, moved R S s' (front ++ (w.0 ++ zs)) zs w.1 (same_cons split) (narrow.into (front ++ (w.0 ++ zs)) zs w.1) w.2, w.3, w.4)

  from_fault : (front : Tokens) (next : Token) (more xs : Tokens) → s ∷ xs ≡ front ++ next ∷ more → (more' zs' : Tokens) (t' : A) → S (front ++ next ∷ more') t' zs' → Ends ends zs' → R (front ++ next ∷ more') t' zs'
  from_fault [] next more xs split more' zs' t' r e = moved S R next more' zs' t' (same_cons split) (λ u. narrow.from more' zs' t' u e) r
  from_fault (s' ∷ front) next more xs split more' zs' t' r e = moved S R s' (front ++ next ∷ more') zs' t' (same_cons split) (λ u. narrow.from (front ++ next ∷ more') zs' t' u e) r

  -- with `none`, S can be begun on nothing
  fault_narrow : {follow : Token → Bool} {P : A → Type 0} {err : ParseFault} {xs : Tokens} → Viable S (λ _. ends) follow P [] → Fault R (λ _. ends) follow P err (s ∷ xs) → Fault S (λ _. ends) follow P err (s ∷ xs)
  fault_narrow {follow} {P} {err} {xs} none g = record {
    front = g.front;
    next = g.next;
    more = g.more;
    split = g.split;
    tells = g.tells;
    viable = viable_front follow P g.front (g.next ∷ g.more) xs g.split none g.viable;
    never = λ more zs t r e q. g.never more zs t (from_fault g.front g.next g.more xs g.split more zs t r e) e q;
    never_deeper = λ h. λ more zs t r e q. g.never_deeper h more zs t (from_fault g.front g.next g.more xs g.split more zs t r e) e q;
    deeper = λ h.
        let none' : Viable S (λ _. ends) follow Any [] = λ zs e. let w : (more : Tokens) × (t : A) × S ([] ++ (more ++ zs)) t zs × Ends ends zs × P t = none zs e in (w.0, w.1, w.2, w.3, tt) in
        viable_front follow Any (g.front ++ g.next ∷ []) g.more xs (g.split ∙ sym (append_assoc g.front (g.next ∷ []) g.more)) none' (g.deeper h);
  }

  pub fails_narrow : (follow : Token → Bool) (P : A → Type 0) (xs : Tokens) (e : ParseFault) → Viable S (λ _. ends) follow P [] → Fails R (λ _. ends) follow P (s ∷ xs) e → Fails S (λ _. ends) follow P (s ∷ xs) e
  fails_narrow follow P xs e none (inl m) = inl m
  fails_narrow follow P xs e none (inr g) = inr (fault_narrow none g)
